-- A reading that goes by the first token, where that token is known.
use Rattle.std.proofs.Common.{◌≡◌, Option, Some, None, ap, ◌∙◌}
use Rattle.cv_reading.specs.Reading.{choose}
use Rattle.cv_reading.specs.Deep.{Deep, next_by}
use Rattle.cv_reading.proofs.Deep.{next_some, next_none, choose_goes, choose_stays}
use Rattle.cv_text.specs.Tokens.{Lexeme, Line}

pub next_goes : {A B : Type 0} (f : Lexeme → Option B) (g : B → Deep Lexeme A) (other_way : Deep Lexeme A) (ts : Line) (b : B) (behind : Line) → next_by f ts ≡ Some (b, behind) → choose f g other_way ts ≡ g b behind
next_goes f g other_way ts b behind h = let n = next_some f ts b behind h in ap (choose f g other_way) n.1 ∙ choose_goes f g other_way n.0 behind b n.2

pub next_stays : {A B : Type 0} (f : Lexeme → Option B) (g : B → Deep Lexeme A) (other_way : Deep Lexeme A) (ts : Line) → next_by f ts ≡ None → choose f g other_way ts ≡ other_way ts
next_stays f g other_way ts h = choose_stays f g other_way ts (next_none f ts h)

pub ruleset nexts = (next_goes, next_stays)
