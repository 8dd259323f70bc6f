-- Codes that were picked one after the other, and the choices that go on from them.
use Rattle.std.specs.Prelude.{Bool, List, None, Option, Some, false, if◌then◌else◌, nat_eq, true, ℕ, ◌≡◌}
use Rattle.cv_ppts.specs.Choices.{Choice, IsPick, entry}
use Rattle.cv_ppts.specs.Outcomes.{Given}
use Rattle.cv_ppts.specs.Setting.{Setting}
use Rattle.cv_ppts.specs.declared.code.Code.{Code}
use Rattle.cv_ppts.specs.declared.outcomes.Gifts.{Gifts, Given', Done as NoGift}
use Rattle.cv_ppts.specs.declared.picks.Codes.{Codes}
use Rattle.cv_ppts.specs.declared.picks.Picks.{Done, Pick', Picks}
use Rattle.cv_ppts.specs.declared.code.Code.TheVariants as code
use Rattle.cv_ppts.specs.declared.picks.Codes.TheVariants as codes

-- the code that was picked for a key, the unknown one where none was
abbrev pub pick_at : Picks → ℕ → Code
pick_at Done i = code.Unknown
pick_at (Pick' key code p rest) i = if nat_eq key i then code else pick_at rest i

abbrev pub has_pick : Picks → ℕ → Bool
has_pick Done i = false
has_pick (Pick' key code p rest) i = if nat_eq key i then true else has_pick rest i

abbrev pub choice_of : Setting → Codes → Choice
choice_of s codes.Entry = entry s
choice_of s (codes.Picked formals cells) = record { formal = pick_at formals.now; cell = pick_at cells.now }

-- the code that was given for a key
abbrev pub gift_at : Gifts → Given
gift_at NoGift y = None
gift_at (Given' gift p rest) y = if nat_eq gift.key y then Some gift.code else gift_at rest y

-- as picked where one was, and else any that the set has
abbrev pub GoesOn : Bool → Code → Option (List Code) → Code → Type 0
GoesOn true picked cs c = c ≡ picked
GoesOn false picked cs c = IsPick cs c

-- for all ways to go on with one more pick
abbrev pub OverPick : (ℕ → Option (List Code)) → ℕ → Code → Picks → ((ℕ → Code) → Type 0) → Type 0
OverPick sets v c L H = (K : ℕ → Code) → ((i : ℕ) → GoesOn (if nat_eq v i then true else has_pick L i) (if nat_eq v i then c else pick_at L i) (sets i) (K i)) → H K

-- for all ways to go on
abbrev pub Over : (ℕ → Option (List Code)) → Picks → ((ℕ → Code) → Type 0) → Type 0
Over sets L H = (K : ℕ → Code) → ((i : ℕ) → GoesOn (has_pick L i) (pick_at L i) (sets i) (K i)) → H K
