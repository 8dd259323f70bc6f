-- What the forms in memory show: their files, the numbers of their calls, and their counts of faults.
use Rattle.std.specs.Prelude.{ℕ, ◌+◌, List, [], ◌∷◌, None, Some, if◌then◌else◌, Contains, map, Vec}
use Rattle.std.specs.declared.alloc.Global.{Global}
use Rattle.std.specs.Str.{bytes_eq}
use Rattle.cv_io.specs.Counts.{capped}
use Rattle.cv_io.specs.Files.{Files}

-- the numbers of the calls of an object in memory: the next one's, and those that are to fail
pub record Numbers : Type 0 where
  pub next : ℕ
  pub fails : List ℕ

-- the next call is to fail
abbrev pub IsDue : Numbers → Type 0
IsDue numbers = Contains numbers.fails numbers.next

-- the numbers after a call
abbrev pub advanced : Numbers → Numbers
advanced numbers = record { next = capped (numbers.next + 1); fails = numbers.fails }

-- a stream in memory: the bytes left or written, the numbers of its calls, and how many of them failed
pub record Stream : Type 0 where
  pub content : List ℕ
  pub calls : Numbers
  pub faults : ℕ

-- the bytes of the first file of this name
abbrev pub file_of : List (List ℕ × List ℕ) → Files
file_of [] name = None
file_of (file ∷ files) name = if bytes_eq file.0 name then Some file.1 else file_of files name

-- how often the name stands in a list of names
abbrev pub times_in : List (List ℕ) → List ℕ → ℕ
times_in [] name = 0
times_in (other ∷ names) name = (if bytes_eq other name then 1 else 0) + times_in names name

-- how often the name stands there, as far as a count goes
abbrev pub count_in : List (List ℕ) → List ℕ → ℕ
count_in names name = capped (times_in names name)

-- files in memory, and the names of those loads that failed
pub record Shelf : Type 0 where
  pub files : List (List ℕ × List ℕ)
  pub unread : List (List ℕ)

-- files in memory, the numbers of the calls, and the names of those saves that failed
pub record Cabinet : Type 0 where
  pub shelf : Shelf
  pub calls : Numbers
  pub unsaved : List (List ℕ)

-- names and files as contracts see them
abbrev pub names_of : List (Vec ℕ Global) → List (List ℕ)
names_of names = map (λ name. name.items) names

abbrev pub files_of : List (Vec ℕ Global × Vec ℕ Global) → List (List ℕ × List ℕ)
files_of files = map (λ file. (file.0.items, file.1.items)) files
