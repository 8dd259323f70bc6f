pub mod FirstSeen
