-- Readings without levels among readings with levels, up to a token that begins no more of what they read.
use Rattle.std.proofs.Common.{◌≡◌, Bool, true, false, List, [], ◌∷◌, ◌++◌, Option, Some, None, Ok, Err, refl, sym, ap, subst, ◌∙◌, append_assoc}
use Rattle.cv_reading.specs.Reading.{Outcome, Reading, and_then}
use Rattle.cv_reading.specs.Deep.{plain}
use Rattle.cv_reading.proofs.Laws.{first, ok_value, ok_rest}
use Rattle.cv_reading.proofs.Each.{ReadsUpTo, Ended}
use Rattle.cv_reading.proofs.Deep.{ReadsDeep, Clear, all_within, plain_goes, some_is}

up_some : {T A : Type 0} (o : Outcome T A) (a : A) (rest : List T) → and_then o (λ b after. Ok (Some b, after)) ≡ Ok (Some a, rest) → o ≡ Ok (a, rest)
up_some {T} {A} (Ok (b, after)) a rest e =
    let k : b ≡ a = some_is b a after rest e in
    let m : after ≡ rest = ok_rest (Some b) (Some a) after rest e in
    cc
up_some (Err d) a rest e = absurd cc

up_none : {T A : Type 0} (o : Outcome T A) (rest : List T) → and_then o (λ b after. Ok (Some b, after)) ≡ Ok (None, rest) → ⊥
up_none (Ok (b, after)) rest e = (let k : Some b ≡ None = ok_value (Some b) None after rest e in absurd cc)
up_none (Err d) rest e = absurd cc

up_err : {T A : Type 0} (o : Outcome T A) (at : List T) → and_then o (λ b after. Ok (Some b, after)) ≡ Err at → o ≡ Err at
up_err (Ok (b, after)) at e = absurd cc
up_err (Err d) at e = cc

pub clear_ended : {T : Type 0} (test : T → Bool) (ts : List T) → Clear test ts → Ended test (first ts)
clear_ended test [] h = tt
clear_ended test (t ∷ ts) h = h

pub deep_up_to : {T A : Type 0} {test : T → Bool} {r : Reading T A} {p : A → List T → Type 0} → ReadsUpTo r p (Ended test) → ReadsDeep false test all_within (plain r) p
deep_up_to {T} {A} {test} {r} {p} by = record {
  takes = λ ts a rest e. (let k = up_some (r ts) a rest e in let x = by.takes ts a rest k in record {
    front = x.front;
    fits = x.fits;
    parts = x.parts;
    small = refl;
    goes = λ other same. plain_goes r (x.front ++ other) a other (by.again a x.front other x.fits (subst (Ended test) (sym same) (by.ends ts a rest k)));
  });
  cuts = λ ts rest e. absurd (up_none (r ts) rest e);
  again = λ a text rest h w clear. plain_goes r (text ++ rest) a rest (by.again a text rest h (clear_ended test rest clear));
  deep = λ a text rest h w clear. absurd cc;
  stops = λ ts at e. (let s = by.stops ts at (up_err (r ts) at e) in let v = s.viable in record {
    front = s.front;
    parts = s.parts;
    decides = λ other k. ap (λ (o : Outcome T A). and_then o (λ b after. Ok (Some b, after))) (s.decides other k);
    viable = s.viable;
    free = λ u w parts some. (v.0, w ++ v.1, refl, subst (λ (z : List T). p v.0 z) (ap (λ (z : List T). z ++ v.1) parts ∙ append_assoc u w v.1) v.2);
  });
  can = (let c = by.can in (c.0, c.1, λ e. refl, c.2));
}
