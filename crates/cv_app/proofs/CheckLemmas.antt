-- The answers of `check`.
use Rattle.std.proofs.Common.{◌≡◌, ℕ, ◌↔◌, List, Bool, true, false, IsTrue, Option, None, Some, Result, Ok, Err, IfSome, refl, sym, ◌∙◌, ap, rules, subst}
use Rattle.cv_core.specs.declared.faults.LimitName.TheVariants as limit
use Rattle.cv_core.specs.declared.program.Program.{Program}
use Rattle.cv_text.specs.Narrow.{IsNarrow}
use Rattle.cv_check.specs.Accepted.{IsAccepted}
use Rattle.cv_io.specs.Files.{Files, HoldsMore}
use Rattle.cv_app.specs.declared.served.Served.{Served}
use Rattle.cv_app.specs.declared.fault.Fault.{Fault}
use Rattle.cv_app.specs.declared.fault.Fault.TheVariants.{NotBuilt, Limit}
use Rattle.cv_app.specs.Commands.{Check}
use Rattle.cv_app.specs.Texts.{not_built_text}
use Rattle.cv_app.specs.Built.{unbuilt_line}
use Rattle.cv_app.specs.Served.{refused}
use Rattle.cv_app.specs.Programs.{Gives, FileGives}
use Rattle.cv_app.specs.Check.{Checks, StandsFor}
use Rattle.cv_app.specs.Check as check
use Rattle.cv_app.specs.Answers.{Answers, LoadsCert}
use Rattle.cv_app.specs.Decided.{check_outcome}
use Rattle.cv_app.specs.Faults.{refusal_of, LoadRefused, UnlessHindered}
use Rattle.cv_app.proofs.BuiltLemmas.{narrow_built}
use Rattle.cv_app.proofs.FileLemmas.{too_long_given, same_bytes, same_program, same_refusal, no_program}
use Rattle.cv_app.proofs.Hindered.{not_read}

-- ---- there is one answer

-- a program with a part that isn't built is no straight-line one
not_both : (files : Files) (name : List ℕ) (p q : Program) (line : ℕ) → FileGives files name (Ok p) → unbuilt_line p ≡ Some line → StandsFor files name q → ⊥
not_both files name p q line given unbuilt stands =
    let same : q ≡ p = same_program files name p q given stands.given in
    let built : unbuilt_line q ≡ None = narrow_built q stands.narrow in
    cc

-- one program has one line at which it isn't built
same_line : (files : Files) (name : List ℕ) (p q : Program) (line other : ℕ) → FileGives files name (Ok p) → FileGives files name (Ok q) → unbuilt_line p ≡ Some line → unbuilt_line q ≡ Some other → line ≡ other
same_line files name p q line other h k e f = let same : q ≡ p = same_program files name p q h k in cc

-- one certificate isn't accepted and rejected
same_verdict : (files : Files) (file cert text text' : List ℕ) (p q : Program) → StandsFor files file p → StandsFor files file q →
    Gives files cert 268435456 text → Gives files cert 268435456 text' → IsAccepted p text → (IsAccepted q text' → ⊥) → ⊥
same_verdict files file cert text text' p q of_p of_q a b holds fails =
    fails (subst (λ (r : Program). IsAccepted r text') (sym (same_program files file p q of_p.given of_q.given))
    (subst (λ (t : List ℕ). IsAccepted p t) (sym (same_bytes files cert 268435456 text text' a b)) holds))

-- There is one answer.
pub one_check : (files : Files) (file cert : List ℕ) (a b : Served) → Checks files file cert a → Checks files file cert b → a ≡ b
one_check files file cert a b (check.Refused h1) (check.Refused h2) = same_refusal files file b a h2 h1
one_check files file cert a b (check.Refused h1) (check.NotBuilt p2 line2 g2 un2 is2) = absurd (no_program files file a p2 h1 g2)
one_check files file cert a b (check.Refused h1) (check.CertificateTooLong p2 of2 more2 is2) = absurd (no_program files file a p2 h1 of2.given)
one_check files file cert a b (check.Refused h1) (check.Rejected p2 text2 of2 given2 fails2 is2) = absurd (no_program files file a p2 h1 of2.given)
one_check files file cert a b (check.Refused h1) (check.Accepted p2 text2 of2 given2 holds2 is2) = absurd (no_program files file a p2 h1 of2.given)
one_check files file cert a b (check.NotBuilt p1 line1 g1 un1 is1) (check.Refused h2) = absurd (no_program files file b p1 h2 g1)
one_check files file cert a b (check.NotBuilt p1 line1 g1 un1 is1) (check.NotBuilt p2 line2 g2 un2 is2) = is1 ∙ ap (λ (n : ℕ). refused 3 (not_built_text file n)) (same_line files file p1 p2 line1 line2 g1 g2 un1 un2) ∙ sym is2
one_check files file cert a b (check.NotBuilt p1 line1 g1 un1 is1) (check.CertificateTooLong p2 of2 more2 is2) = absurd (not_both files file p1 p2 line1 g1 un1 of2)
one_check files file cert a b (check.NotBuilt p1 line1 g1 un1 is1) (check.Rejected p2 text2 of2 given2 fails2 is2) = absurd (not_both files file p1 p2 line1 g1 un1 of2)
one_check files file cert a b (check.NotBuilt p1 line1 g1 un1 is1) (check.Accepted p2 text2 of2 given2 holds2 is2) = absurd (not_both files file p1 p2 line1 g1 un1 of2)
one_check files file cert a b (check.CertificateTooLong p1 of1 more1 is1) (check.Refused h2) = absurd (no_program files file b p1 h2 of1.given)
one_check files file cert a b (check.CertificateTooLong p1 of1 more1 is1) (check.NotBuilt p2 line2 g2 un2 is2) = absurd (not_both files file p2 p1 line2 g2 un2 of1)
one_check files file cert a b (check.CertificateTooLong p1 of1 more1 is1) (check.CertificateTooLong p2 of2 more2 is2) = is1 ∙ sym is2
one_check files file cert a b (check.CertificateTooLong p1 of1 more1 is1) (check.Rejected p2 text2 of2 given2 fails2 is2) = absurd (too_long_given files cert 268435456 text2 more1 given2)
one_check files file cert a b (check.CertificateTooLong p1 of1 more1 is1) (check.Accepted p2 text2 of2 given2 holds2 is2) = absurd (too_long_given files cert 268435456 text2 more1 given2)
one_check files file cert a b (check.Rejected p1 text1 of1 given1 fails1 is1) (check.Refused h2) = absurd (no_program files file b p1 h2 of1.given)
one_check files file cert a b (check.Rejected p1 text1 of1 given1 fails1 is1) (check.NotBuilt p2 line2 g2 un2 is2) = absurd (not_both files file p2 p1 line2 g2 un2 of1)
one_check files file cert a b (check.Rejected p1 text1 of1 given1 fails1 is1) (check.CertificateTooLong p2 of2 more2 is2) = absurd (too_long_given files cert 268435456 text1 more2 given1)
one_check files file cert a b (check.Rejected p1 text1 of1 given1 fails1 is1) (check.Rejected p2 text2 of2 given2 fails2 is2) = is1 ∙ sym is2
one_check files file cert a b (check.Rejected p1 text1 of1 given1 fails1 is1) (check.Accepted p2 text2 of2 given2 holds2 is2) = absurd (same_verdict files file cert text2 text1 p2 p1 of2 of1 given2 given1 holds2 fails1)
one_check files file cert a b (check.Accepted p1 text1 of1 given1 holds1 is1) (check.Refused h2) = absurd (no_program files file b p1 h2 of1.given)
one_check files file cert a b (check.Accepted p1 text1 of1 given1 holds1 is1) (check.NotBuilt p2 line2 g2 un2 is2) = absurd (not_both files file p2 p1 line2 g2 un2 of1)
one_check files file cert a b (check.Accepted p1 text1 of1 given1 holds1 is1) (check.CertificateTooLong p2 of2 more2 is2) = absurd (too_long_given files cert 268435456 text1 more2 given1)
one_check files file cert a b (check.Accepted p1 text1 of1 given1 holds1 is1) (check.Rejected p2 text2 of2 given2 fails2 is2) = absurd (same_verdict files file cert text1 text2 p1 p2 of1 of2 given1 given2 holds1 fails2)
one_check files file cert a b (check.Accepted p1 text1 of1 given1 holds1 is1) (check.Accepted p2 text2 of2 given2 holds2 is2) = is1 ∙ sym is2

-- ---- what is decided

-- a program that isn't treated
pub not_built : (told : Option Files) (file cert : List ℕ) (p : Program) (line : ℕ) → IfSome told (λ files. FileGives files file (Ok p)) →
    unbuilt_line p ≡ Some line → Answers told (Check file cert) (refusal_of file (NotBuilt line))
not_built None file cert p line given unbuilt = search rules
not_built (Some files) file cert p line given unbuilt = check.NotBuilt p line given unbuilt refl

-- a program that is treated
pub loads_cert : (told : Option Files) (file : List ℕ) (p : Program) → IfSome told (λ files. FileGives files file (Ok p)) → IsNarrow p → LoadsCert told file
loads_cert None file p given narrow = search rules
loads_cert (Some files) file p given narrow = record { program = p; stands = record { given = given; narrow = narrow } }

long_cert : (told told' : Option Files) (file cert : List ℕ) (p : Program) → told' ≡ told → IfSome told (λ files. FileGives files file (Ok p)) → IsNarrow p →
    HoldsMore told' cert 268435456 → Answers told (Check file cert) (refusal_of file (Limit limit.Certificate))
long_cert None told' file cert p same given narrow more = search rules
long_cert (Some files) told' file cert p same given narrow more =
    check.CertificateTooLong p (record { given = given; narrow = narrow }) (rw same at more) refl

-- a certificate that isn't loaded
pub cert_refused : (told told' : Option Files) (file cert : List ℕ) (p : Program) (f f' : ℕ) (fault : Fault) → told' ≡ told →
    IfSome told (λ files. FileGives files file (Ok p)) → IsNarrow p → LoadRefused told' cert 268435456 limit.Certificate f f' fault →
    UnlessHindered {X = Bool} (Err fault) (Answers told (Check file cert) (refusal_of file fault))
cert_refused told told' file cert p f f' fault same given narrow why =
    not_read Bool limit.Certificate (HoldsMore told' cert 268435456) f f' fault (λ e. Answers told (Check file cert) (refusal_of file e)) why
    (long_cert told told' file cert p same given narrow)

-- a certificate that is decided
pub cert_decided : (told told' : Option Files) (file cert text : List ℕ) (p : Program) (accepted : Bool) → told' ≡ told →
    IfSome told (λ files. FileGives files file (Ok p)) → IsNarrow p → IfSome told' (λ files. Gives files cert 268435456 text) →
    (IsTrue accepted ↔ IsAccepted p text) → Answers told (Check file cert) (check_outcome file (Ok accepted))
cert_decided None told' file cert text p accepted same given narrow loaded decided = search rules
cert_decided (Some files) told' file cert text p true same given narrow loaded decided =
    let here = rw same at loaded in
    check.Accepted p text (record { given = given; narrow = narrow }) here (search rules) refl
cert_decided (Some files) told' file cert text p false same given narrow loaded decided =
    let here = rw same at loaded in
    check.Rejected p text (record { given = given; narrow = narrow }) here (λ h. search rules) refl

abbrev decision_of : Bool → Result Bool Fault
decision_of accepted = Ok accepted

-- a decision that accepts
pub accepted_true : (accepted : Bool) → decision_of accepted ≡ decision_of true → IsTrue accepted
accepted_true accepted is = cc
