-- Input that is read piece by piece, and words that are read one by one.
use Rattle.std.proofs.Common.{Bool, true, false, nat_le, if◌then◌else◌, ℤ, All, IsTrue, ◌≡◌, ℕ, ◌<◌, ◌≤◌, List, [], ◌∷◌, ◌++◌, length, Option, None, Some, IfSome, option_map, option_and_then, refl, sym, ap, ◌∙◌, arith, rules, subst, append-nil}
use Rattle.std.proofs.lemmas.List.{append_assoc, length-append}
use Rattle.std.proofs.lemmas.List.Elements.{All-cons, All-nil}
use Rattle.cv_core.specs.declared.program.Formal.{Formal}
use Rattle.cv_core.specs.declared.program.VarKind.{VarKind}
use Rattle.cv_core.specs.declared.program.VarKind.TheVariants as kind
use Rattle.cv_meaning.specs.declared.ends.Arg.{Arg}
use Rattle.cv_meaning.specs.declared.ends.Arg.TheVariants as arg
use Rattle.cv_interp.specs.Start.{fit, fits_kind, HasFewBytes}
use Rattle.cv_io.specs.Streams.{preceded, Takes, IsAtEnd}
use Rattle.cv_app.specs.Args.{arg_of, args_of}
use Rattle.cv_app.specs.Numbers.{int_of}

-- a piece more
pub told_more : (all left left' : Option (List ℕ)) (bytes piece : List ℕ) → all ≡ preceded bytes left → Takes left piece left' → all ≡ preceded (bytes ++ piece) left'
told_more all left None bytes piece h t = h ∙ ap (λ (o : Option (List ℕ)). preceded bytes o) t
told_more all left (Some rest) bytes piece h t =
    h ∙ ap (λ (o : Option (List ℕ)). preceded bytes o) t ∙ ap (λ (l : List ℕ). Some l) (sym (append_assoc bytes piece rest))

-- nothing is left
pub told_whole : (all left : Option (List ℕ)) (bytes : List ℕ) → all ≡ preceded bytes left → IsAtEnd left → IfSome all (λ told. told ≡ bytes)
told_whole None left bytes h end = search rules
told_whole (Some told) None bytes h end = absurd cc
told_whole (Some told) (Some rest) bytes h end =
    let same : told ≡ bytes ++ rest = cc in
    same ∙ ap (λ (l : List ℕ). bytes ++ l) end ∙ append-nil bytes

-- too much is told
pub told_too_long : (all left : Option (List ℕ)) (bytes : List ℕ) (limit : ℕ) → all ≡ preceded bytes left → limit < length bytes → IfSome all (λ told. limit < length told)
told_too_long None left bytes limit h more = search rules
told_too_long (Some told) None bytes limit h more = absurd cc
told_too_long (Some told) (Some rest) bytes limit h more =
    let same : told ≡ bytes ++ rest = cc in
    let long = ap (λ (l : List ℕ). length l) same in
    omega (arith, more, long, length-append bytes rest)

-- ---- words

abbrev with_front : List Arg → Option (List Arg) → Option (List Arg)
with_front args o = option_map (λ more. args ++ more) o

front_then : (args : List Arg) (a : Arg) (o : Option (List Arg)) → with_front args (option_map (λ more. a ∷ more) o) ≡ with_front (args ++ a ∷ []) o
front_then args a None = refl
front_then args a (Some more) = ap (λ (l : List Arg). Some l) (sym (append_assoc args (a ∷ []) more))

-- one more word is of its form
pub next_arg : (args : List Arg) (a : Arg) (f : Formal) (fs : List Formal) (w : List ℕ) (ws : List (List ℕ)) (all : Option (List Arg)) → Some a ≡ arg_of f.kind w →
    with_front args (args_of (f ∷ fs) (w ∷ ws)) ≡ all → with_front (args ++ a ∷ []) (args_of fs ws) ≡ all
next_arg args a f fs w ws all is h =
    sym (front_then args a (args_of fs ws))
    ∙ ap (λ (o : Option Arg). with_front args (option_and_then (λ b. option_map (λ more. b ∷ more) (args_of fs ws)) o)) is ∙ h

-- one more word is of another form
pub other_arg : (args : List Arg) (f : Formal) (fs : List Formal) (w : List ℕ) (ws : List (List ℕ)) (all : Option (List Arg)) → None ≡ arg_of f.kind w →
    with_front args (args_of (f ∷ fs) (w ∷ ws)) ≡ all → None ≡ all
other_arg args f fs w ws all is h =
    ap (λ (o : Option Arg). with_front args (option_and_then (λ b. option_map (λ more. b ∷ more) (args_of fs ws)) o)) is ∙ h

-- ---- arguments are of their formals' kinds, and short

-- an argument is of this kind, and short
abbrev Suits : VarKind → Arg → Type 0
Suits k a = (fits_kind k a ≡ true) × HasFewBytes a

int_suits : (o : Option ℤ) (a : Arg) → option_map (λ z. arg.Int z) o ≡ Some a → Suits kind.Int a
int_suits None a e = absurd cc
int_suits (Some z) a e = let same : arg.Int z ≡ a = cc in subst (Suits kind.Int) same (refl, tt)

text_suits : (w : List ℕ) (a : Arg) (few : Bool) → nat_le (length w) 1048576 ≡ few → (if few then Some (arg.Text w) else None) ≡ Some a → Suits kind.Ptr a
text_suits w a false le e = absurd cc
text_suits w a true le e = let same : arg.Text w ≡ a = cc in let short : length w ≤ 1048576 = grind arith in subst (Suits kind.Ptr) same (refl, short)

arg_suits : (k : VarKind) (w : List ℕ) (a : Arg) → arg_of k w ≡ Some a → Suits k a
arg_suits kind.Int w a e = int_suits (int_of w) a e
arg_suits kind.Char w a e = absurd cc
arg_suits kind.Ptr w a e = text_suits w a (nat_le (length w) 1048576) refl e
arg_suits kind.Pptr w a e = absurd cc
arg_suits kind.Iptr w a e = absurd cc

-- each argument is of its formal's kind, and short
pub args_suit : (fs : List Formal) (ws : List (List ℕ)) (args : List Arg) → args_of fs ws ≡ Some args → IsTrue (fit fs args) × All HasFewBytes args
args_suit [] [] [] e = (search rules, All-nil HasFewBytes)
args_suit [] [] (a ∷ args) e = absurd cc
args_suit [] (w ∷ ws) args e = absurd cc
args_suit (f ∷ fs) [] args e = absurd cc
args_suit (f ∷ fs) (w ∷ ws) args e = by_first args (arg_of f.kind w) (args_of fs ws) refl refl (args_suit fs ws) e
  where
    by_first : (all : List Arg) (first : Option Arg) (later : Option (List Arg)) → arg_of f.kind w ≡ first → args_of fs ws ≡ later →
        ((rest : List Arg) → args_of fs ws ≡ Some rest → IsTrue (fit fs rest) × All HasFewBytes rest) →
        option_and_then (λ a. option_map (λ more. a ∷ more) later) first ≡ Some all → IsTrue (fit (f ∷ fs) all) × All HasFewBytes all
    by_first all None later h k suit e = absurd cc
    by_first all (Some a) None h k suit e = absurd cc
    by_first all (Some a) (Some more) h k suit e =
        let same : a ∷ more ≡ all = cc in
        let here = arg_suits f.kind w a h in
        let there = suit more k in
        let fits : IsTrue (fit (f ∷ fs) (a ∷ more)) = rw here.0 there.0 in
        subst (λ (l : List Arg). IsTrue (fit (f ∷ fs) l) × All HasFewBytes l) same (fits, All-cons HasFewBytes a more here.1 there.1)
