-- A text is read in one way: its first fault and its line are determined, and it has none where it is spelled.
use Rattle.std.proofs.Common.{◌≡◌, ℕ, Bool, true, false, List, [], ◌∷◌, ◌++◌, Result, Ok, Err, refl, sym, ap, subst, ◌∙◌, append_assoc, append-nil, ◌⊎◌, inl, inr}
use Rattle.cv_core.specs.declared.program.Program.{Program}
use Rattle.cv_reading.specs.Fault.{Viable, Fails, FirstFault}
use Rattle.cv_reading.specs.Levels.{OpensTooMany}
use Rattle.cv_text.specs.declared.faults.TextFault.{TextFault}
use Rattle.cv_text.specs.Tokens.{Line, lexemes}
use Rattle.cv_text.specs.Given.{from}
use Rattle.cv_text.specs.Lines.{line_of}
use Rattle.cv_text.specs.Whole.{ProgramText, Spells}
use Rattle.cv_text.specs.ProgramReader.{is_within}
use Rattle.cv_text.specs.CoreText.{OpensTooManyLevels, IsFirstFault}
use Rattle.cv_text.specs.Readings.{Unread, Faulty, Nested, IsReading}
use Rattle.cv_text.proofs.Ink.{one_place}

-- ---- two ways of cutting a line in two

-- the second cut lies behind the first
record Behind {T : Type 0} (a x b y : List T) : Type 0 where
  here : T
  between : List T
  front : b ≡ a ++ here ∷ between
  rest : x ≡ here ∷ between ++ y

cuts : {T : Type 0} (a b x y : List T) → a ++ x ≡ b ++ y → (x ≡ y) ⊎ (Behind a x b y ⊎ Behind b y a x)
cuts [] [] x y h = inl h
cuts [] (t ∷ us) x y h = inr (inl (record { here = t; between = us; front = refl; rest = h }))
cuts (s ∷ a) [] x y h = inr (inr (record { here = s; between = a; front = refl; rest = sym h }))
cuts {T} (s ∷ a) (t ∷ b) x y h =
    let same : s ≡ t = cc in
    let rest : a ++ x ≡ b ++ y = cc in
    elim (cuts a b x y rest) [
      | inl e ↦ inl e
      | inr (inl k) ↦ inr (inl (record { here = k.here; between = k.between; front = ap (λ (u : T). u ∷ b) (sym same) ∙ ap (λ (us : List T). s ∷ us) k.front; rest = k.rest }))
      | inr (inr k) ↦ inr (inr (record { here = k.here; between = k.between; front = ap (λ (u : T). u ∷ a) same ∙ ap (λ (us : List T). t ∷ us) k.front; rest = k.rest }))
    ]

module _ {T A : Type 0} (spells : A → List T → Type 0) where
  shorter : (x y : List T) → Viable spells (x ++ y) → Viable spells x
  shorter x y v = (v.0, y ++ v.1, subst (spells v.0) (append_assoc x y v.1) v.2)

  fails_at : (front at : List T) (t : T) (rest : List T) → Fails spells front at → at ≡ t ∷ rest → Viable spells (front ++ t ∷ []) → ⊥
  fails_at front [] t rest h e v = absurd cc
  fails_at front (u ∷ us) t rest h e v = let same : t ≡ u = cc in h (subst (λ (w : T). Viable spells (front ++ w ∷ [])) same v)

  not_behind : (text at at' : List T) (f : FirstFault spells text at) (g : FirstFault spells text at') → Behind f.front at g.front at' → ⊥
  not_behind text at at' f g k =
      let whole : g.front ≡ (f.front ++ k.here ∷ []) ++ k.between = k.front ∙ sym (append_assoc f.front (k.here ∷ []) k.between) in
      fails_at f.front at k.here (k.between ++ at') f.fails k.rest (shorter (f.front ++ k.here ∷ []) k.between (subst (Viable spells) whole g.viable))

  -- there is one first fault
  pub one_fault : (text at at' : List T) → FirstFault spells text at → FirstFault spells text at' → at ≡ at'
  one_fault text at at' f g = elim (cuts f.front g.front at at' (sym f.parts ∙ g.parts)) [
    | inl e ↦ e
    | inr (inl k) ↦ absurd (not_behind text at at' f g k)
    | inr (inr k) ↦ absurd (not_behind text at' at g f k)
  ]

  fails_whole : (a : A) (front at : List T) → Fails spells front at → spells a (front ++ at) → ⊥
  fails_whole a front [] h s = h a (subst (spells a) (append-nil front) s)
  fails_whole a front (t ∷ rest) h s = h (a, rest, subst (spells a) (sym (append_assoc front (t ∷ []) rest)) s)

  -- a line that is spelled has no fault
  pub no_fault : (a : A) (text at : List T) → FirstFault spells text at → spells a text → ⊥
  no_fault a text at f s = fails_whole a f.front at f.fails (subst (spells a) f.parts s)

-- ---- texts

not_deep : (text : List ℕ) (p : Program) → Spells text p → is_within p ≡ true → OpensTooManyLevels text → ⊥
not_deep text p s w o = let far : is_within p ≡ false = o.too_many p (o.here ∷ o.rest) (subst (ProgramText p) o.parts s.tokens) in absurd cc

same_line : (text : List ℕ) (f g : TextFault) → IsFirstFault text f → IsFirstFault text g → f.line ≡ g.line
same_line text f g a b =
    let tokens : from text f.at ≡ from text g.at = one_fault ProgramText (lexemes text) (from text f.at) (from text g.at) a.first b.first in
    let place : f.at ≡ g.at = one_place text f.at g.at a.place b.place tokens in
    a.line ∙ ap (line_of text) place ∙ sym b.line

-- ---- the reading of a text, by what a reader answers

abbrev faulty : ℕ → Result Program Unread
faulty line = Err (Faulty line)

pub reads_program : (text : List ℕ) (p : Program) → Spells text p → is_within p ≡ true → ((q : Program) → Spells text q → is_within q ≡ true → p ≡ q) → (r : Result Program Unread) → IsReading text r → r ≡ Ok p
reads_program text p s w one (Ok q) h = let same : p ≡ q = one q h.0 h.1 in ap (λ (x : Program). Ok x) (sym same)
reads_program text p s w one (Err (Faulty line)) h = absurd (no_fault ProgramText p (lexemes text) (from text h.0.at) h.1.first s.tokens)
reads_program text p s w one (Err Nested) h = absurd (not_deep text p s w h)

pub reads_fault : (text : List ℕ) (f : TextFault) → IsFirstFault text f → (r : Result Program Unread) → IsReading text r → r ≡ Err (Faulty f.line)
reads_fault text f is (Ok q) h = absurd (no_fault ProgramText q (lexemes text) (from text f.at) is.first h.0.tokens)
reads_fault text f is (Err (Faulty line)) h = ap faulty (h.2 ∙ same_line text h.0 f h.1 is)
reads_fault text f is (Err Nested) h = absurd (is.levels h)

pub reads_nested : (text : List ℕ) → OpensTooManyLevels text → (r : Result Program Unread) → IsReading text r → r ≡ Err Nested
reads_nested text o (Ok q) h = absurd (not_deep text q h.0 h.1 o)
reads_nested text o (Err (Faulty line)) h = absurd (h.1.levels o)
reads_nested text o (Err Nested) h = refl
