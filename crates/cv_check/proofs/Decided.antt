-- The answer of the checker, from whether the certificate that was read is valid.
use Rattle.std.proofs.Common.{◌≡◌, ◌↔◌, sym, subst, ◌∙◌, ℕ, ◌<◌, Bool, List, IsTrue}
use Rattle.cv_core.specs.declared.program.Program.{Program}
use Rattle.cv_meaning.specs.Clean.{Clean}
use Rattle.cv_text.specs.Narrow.{IsNarrow}
use Rattle.cv_cert.specs.Certificate.{Certificate, IsCertificate}
use Rattle.cv_cert.specs.Text.{text_of}
use Rattle.cv_cert.proofs.WholeText.{one_text}
use Rattle.cv_core.specs.declared.program.Stmt.{Stmt}
use Rattle.cv_check.specs.Accepted.{IsValid, IsCertificateValid, IsAccepted, buffer_size, statements}
use Rattle.cv_check.proofs.Clean.{accepted_clean}

accepted : (P : Program) (text : List ℕ) (c : Certificate) → IsCertificate c → text ≡ text_of c → IsValid P c → IsAccepted P text
accepted P text c is same valid = record { certificate = c; is_certificate = is; is_text = same; valid = valid }

its_valid : (P : Program) (text : List ℕ) (c : Certificate) → IsCertificate c → text ≡ text_of c → IsAccepted P text → IsValid P c
its_valid P text c is same a =
    let V : Certificate → Type 0 = IsValid P in
    subst V (one_text a.certificate c a.is_certificate is (sym a.is_text ∙ same)) a.valid

-- the parts of P as the code has them
pub decided : (P : Program) (text : List ℕ) (c : Certificate) (size : ℕ) (stmts : List Stmt) (b : Bool) → size ≡ buffer_size P → stmts ≡ statements P →
    IsCertificate c × (text ≡ text_of c) → (IsTrue b ↔ IsCertificateValid size stmts c) → IsTrue b ↔ IsAccepted P text
decided P text c size stmts b s t is h =
    let A : ℕ → Type 0 = λ n. IsTrue b ↔ IsCertificateValid n (statements P) c in
    let B : List Stmt → Type 0 = λ ss. IsTrue b ↔ IsCertificateValid size ss c in
    let k : IsTrue b ↔ IsValid P c = subst A s (subst B t h) in
    (λ says. accepted P text c is.0 is.1 (k.0 says), λ a. k.1 (its_valid P text c is.0 is.1 a))

pub decided_clean : (P : Program) (text : List ℕ) (c : Certificate) (size : ℕ) (stmts : List Stmt) (b : Bool) → size ≡ buffer_size P → size < 2147483648 → stmts ≡ statements P →
    IsCertificate c × (text ≡ text_of c) → (IsTrue b ↔ IsCertificateValid size stmts c) → IsTrue b → IsNarrow P → Clean P
decided_clean P text c size stmts b s lt t is h says narrow =
    let L : ℕ → Type 0 = λ n. n < 2147483648 in
    accepted_clean P (subst L s lt) narrow text ((decided P text c size stmts b s t is h).0 says)
