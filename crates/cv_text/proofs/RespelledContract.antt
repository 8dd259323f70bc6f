-- The printed text of a contract is of the grammar, for that contract.
use Rattle.std.proofs.Common.{◌≡◌, ℕ, Bool, true, false, List, [], ◌∷◌, ◌++◌, Option, Some, None, codes, refl, sym, ap, ◌∙◌, append_assoc, arith}
use Rattle.std.specs.List.{All, flat_map}
use Rattle.std.specs.Fmt.{decimal}
use Rattle.cv_core.specs.Grammar.{IsName, IsPointer, IsTerm, IsFactor, IsLin, IsAtom, IsItem, IsAlternative, IsContract}
use Rattle.cv_core.specs.declared.program.Contract.{Contract}
use Rattle.cv_core.specs.declared.program.PtrTerm.{PtrTerm, more_of-PtrTerm}
use Rattle.cv_core.specs.declared.program.PtrTerm.TheVariants as pointer
use Rattle.cv_core.specs.declared.program.Term.{Term, more_of-Term}
use Rattle.cv_core.specs.declared.program.Term.TheVariants as term
use Rattle.cv_core.specs.declared.program.LinPart.{LinPart}
use Rattle.cv_core.specs.declared.program.Atom.{Atom}
use Rattle.cv_core.specs.declared.program.Atom.TheVariants as atom
use Rattle.cv_core.specs.declared.program.Item.{Item}
use Rattle.cv_core.specs.declared.program.Item.TheVariants as item
use Rattle.cv_core.specs.declared.program.Rel.{Rel}
use Rattle.cv_core.specs.declared.program.Rel.TheVariants as rel
use Rattle.cv_reading.specs.Phrase.{◌⋅◌}
use Rattle.cv_text.specs.declared.token.Key.TheVariants as key
use Rattle.cv_text.specs.declared.token.Sign.TheVariants as sign
use Rattle.cv_text.specs.Tokens.{Line, key_of}
use Rattle.cv_core.specs.Grammar.{begins_name}
use Rattle.cv_text.specs.Grammar.{Name, Word, Mark, Equality, Relation, end}
use Rattle.cv_text.specs.Clauses.{Applied, Pointer, TermText, Factor, FirstSign, LaterSign, LaterParts, Linear, AtomText, ItemText, Clause, Atoms, ContractText}
use Rattle.cv_text.specs.PrintedContract.{joined, rel_text, pointer_text, term_text, factor_text, first_sign_text, later_sign_text, later_part_text, sum_text, null_text, atom_text, item_text, clause_text, atoms_text, contract_text}
use Rattle.cv_text.proofs.Pieces.{Apart, Keeps, is_apart, closed_as_open, closed_none, closed_blank, closed_plus, closed_minus, closed_times, closed_dash, closed_star, closed_bar, closed_bracket, closed_end_bracket, name_open, word_open, open_closed}
use Rattle.cv_text.proofs.Respelled.{Prints, PrintsOpen, ◌▸◌, ◌▹◌, open_then, open_then_open, open_then_keeps, as_open, regroup, regroup_open, token, open_token, then_newline, name_prints, semicolon, count_prints, separated_then, separated_open, tail_good}
use Rattle.cv_text.proofs.RespelledForms.{null_word, relation, relation_apart, comma}

close : Prints (codes ")") (Mark sign.Close)
close = token closed_end_bracket

starred : (x : List ℕ) → IsName x → PrintsOpen (codes "*" ++ x) (Mark sign.Star ⋅ Name x)
starred x h = token closed_star ▹ name_prints x h

answer_word : PrintsOpen (codes "result") (Word key.Result)
answer_word = open_token (word_open (codes "result") key.Result refl refl)

-- a word of contracts with what stands in brackets behind it
applied : (f : List ℕ) (text : List ℕ) (p : Line → Type 0) → begins_name f ≡ true → key_of f ≡ None → PrintsOpen text p → Prints ((f ++ codes "(") ++ text ++ codes ")") (Applied f p)
applied f text p h k x =
    let whole : f ++ (codes "(" ++ (text ++ codes ")")) ≡ (f ++ codes "(") ++ text ++ codes ")" = simp append_assoc in
    regroup whole (open_then (open_token (name_open f h k)) (λ rest. refl) (token closed_bracket ▸ open_then x (λ rest. refl) close))

-- ---- pointers and terms

pub pointer_prints : (t : PtrTerm) → IsPointer t → PrintsOpen (pointer_text t) (Pointer t)
pointer_prints (pointer.Name x) h = name_prints x h
pointer_prints (pointer.Star x) h = starred x h
pointer_prints pointer.Answer h = answer_word
pointer_prints (pointer.Pre' s (more_of-PtrTerm t rest)) h = as_open (applied (codes "pre") (pointer_text t) (Pointer t) refl refl (pointer_prints t h))

pub term_prints : (t : Term) → IsTerm t → PrintsOpen (term_text t) (TermText t)
term_prints (term.Name x) h = name_prints x h
term_prints (term.Star x) h = starred x h
term_prints term.Answer h = answer_word
term_prints (term.Pre' s (more_of-Term t rest)) h = as_open (applied (codes "pre") (term_text t) (TermText t) refl refl (term_prints t h))
term_prints (term.Alloc p) h = as_open (applied (codes "alloc") (pointer_text p) (Pointer p) refl refl (pointer_prints p h))
term_prints (term.Offset p) h = as_open (applied (codes "offset") (pointer_text p) (Pointer p) refl refl (pointer_prints p h))
term_prints (term.Strlen p) h = as_open (applied (codes "strlen") (pointer_text p) (Pointer p) refl refl (pointer_prints p h))

-- ---- sums

factor_prints : (number : Option ℕ) (t : Option Term) → IsFactor number t → PrintsOpen (factor_text number t) (Factor number t)
factor_prints None None h = absurd h
factor_prints None (Some t) h = term_prints t h
factor_prints (Some k) None h = count_prints k h
factor_prints (Some k) (Some t) h =
    let whole : decimal k ++ (codes " * " ++ term_text t) ≡ (decimal k ++ codes " * ") ++ term_text t = sym (append_assoc (decimal k) (codes " * ") (term_text t)) in
    regroup_open whole (open_then_open (count_prints k h.0) (λ rest. refl) (token closed_times ▹ term_prints t h.1))

later_sign : (b : Bool) → Prints (later_sign_text b) (LaterSign b)
later_sign true = token closed_minus
later_sign false = token closed_plus

later_apart : (b : Bool) → Apart (later_sign_text b)
later_apart true = λ rest. refl
later_apart false = λ rest. refl

abbrev PartGood : LinPart → Type 0
PartGood p = IsFactor p.number p.term

later_keeps : (ps : List LinPart) → Keeps (flat_map later_part_text ps)
later_keeps [] = λ rest h. h
later_keeps (p ∷ ps) = λ rest h.
    let others : List ℕ = flat_map later_part_text ps in
    let part : List ℕ = factor_text p.number p.term in
    let e : ((later_sign_text p.negative ++ part) ++ others) ++ rest ≡ later_sign_text p.negative ++ (part ++ (others ++ rest)) = simp append_assoc in
    ap is_apart e ∙ later_apart p.negative (part ++ (others ++ rest))

later_prints : (ps : List LinPart) → All PartGood ps → PrintsOpen (flat_map later_part_text ps) (LaterParts ps)
later_prints [] h = record { line = []; is = refl; opened = closed_as_open closed_none }
later_prints (p ∷ ps) h =
    let others : List ℕ = flat_map later_part_text ps in
    let part : List ℕ = factor_text p.number p.term in
    let whole : later_sign_text p.negative ++ (part ++ others) ≡ (later_sign_text p.negative ++ part) ++ others = sym (append_assoc (later_sign_text p.negative) part others) in
    regroup_open whole (later_sign p.negative ▹ open_then_keeps (factor_prints p.number p.term (h 0 p (omega arith))) (later_keeps ps) (later_prints ps (tail_good PartGood p ps h)))

first_sign : (b : Bool) → Prints (first_sign_text b) (FirstSign b)
first_sign true = token closed_dash
first_sign false = record { line = []; is = refl; closed = closed_none }

sum_prints : (ps : List LinPart) → IsLin ps → PrintsOpen (sum_text ps) (Linear ps)
sum_prints [] h = absurd (omega (arith, h.0))
sum_prints (p ∷ ps) h =
    let others : List ℕ = flat_map later_part_text ps in
    let part : List ℕ = factor_text p.number p.term in
    let whole : first_sign_text p.negative ++ (part ++ others) ≡ (first_sign_text p.negative ++ part) ++ others = sym (append_assoc (first_sign_text p.negative) part others) in
    regroup_open whole (first_sign p.negative ▹ open_then_keeps (factor_prints p.number p.term (h.1 0 p (omega arith))) (later_keeps ps) (later_prints ps (tail_good PartGood p ps h.1)))

-- ---- atoms and items

null_tested : (equal : Bool) → PrintsOpen (null_text equal) (Equality equal ⋅ Word key.Null)
null_tested true = relation rel.Eq ▹ null_word
null_tested false = relation rel.Ne ▹ null_word

null_apart : (equal : Bool) → Apart (null_text equal)
null_apart true = λ rest. refl
null_apart false = λ rest. refl

pointer_applied : (f : List ℕ) (p : PtrTerm) → begins_name f ≡ true → key_of f ≡ None → IsPointer p → PrintsOpen ((f ++ codes "(") ++ pointer_text p ++ codes ")") (Applied f (Pointer p))
pointer_applied f p h k g = as_open (applied f (pointer_text p) (Pointer p) h k (pointer_prints p g))

sums_compared : (left right : List LinPart) (r : Rel) → IsLin left → IsLin right → PrintsOpen (sum_text left ++ rel_text r ++ sum_text right) (Linear left ⋅ Relation r ⋅ Linear right)
sums_compared left right r h k =
    let whole : sum_text left ++ (rel_text r ++ sum_text right) ≡ sum_text left ++ rel_text r ++ sum_text right = sym (append_assoc (sum_text left) (rel_text r) (sum_text right)) in
    regroup_open whole (open_then_open (sum_prints left h) (relation_apart r (sum_text right)) (relation r ▹ sum_prints right k))

pub atom_prints : (a : Atom) → IsAtom a → PrintsOpen (atom_text a) (AtomText a)
atom_prints (atom.Null p equal) h = open_then_open (pointer_prints p h) (null_apart equal) (null_tested equal)
atom_prints (atom.Nullt p) h = pointer_applied (codes "nullt") p refl refl h
atom_prints (atom.Clear p) h = pointer_applied (codes "clear") p refl refl h
atom_prints (atom.Fresh p) h = pointer_applied (codes "fresh") p refl refl h
atom_prints (atom.Apart p q) h =
    let inside : List ℕ = pointer_text p ++ (codes ", " ++ pointer_text q) in
    let both : PrintsOpen inside (Pointer p ⋅ Mark sign.Comma ⋅ Pointer q) = open_then_open (pointer_prints p h.0) (λ rest. refl) (comma ▹ pointer_prints q h.1) in
    let whole : codes "apart(" ++ inside ++ codes ")" ≡ atom_text (atom.Apart p q) = simp append_assoc in
    as_open (regroup whole (applied (codes "apart") inside (Pointer p ⋅ Mark sign.Comma ⋅ Pointer q) refl refl both))
atom_prints (atom.SameBase p q) h =
    let left : List ℕ = codes "base(" ++ pointer_text p ++ codes ")" in
    let right : List ℕ = codes "base(" ++ pointer_text q ++ codes ")" in
    let begun : List ℕ = codes "base(" ++ pointer_text p in
    let whole : left ++ (codes " == " ++ right) ≡ atom_text (atom.SameBase p q) =
    append_assoc begun (codes ")") (codes " == " ++ right) ∙ sym (append_assoc begun (codes ") == base(") (pointer_text q ++ codes ")")) ∙ sym (append_assoc (begun ++ codes ") == base(") (pointer_text q) (codes ")")) in
    regroup_open whole (applied (codes "base") (pointer_text p) (Pointer p) refl refl (pointer_prints p h.0) ▹ (relation rel.Eq ▹ pointer_applied (codes "base") q refl refl h.1))
atom_prints (atom.Compare left rel.Ne right) h = absurd h
atom_prints (atom.Compare left rel.Eq right) h = sums_compared left right rel.Eq h.0 h.1
atom_prints (atom.Compare left rel.Lt right) h = sums_compared left right rel.Lt h.0 h.1
atom_prints (atom.Compare left rel.Le right) h = sums_compared left right rel.Le h.0 h.1
atom_prints (atom.Compare left rel.Gt right) h = sums_compared left right rel.Gt h.0 h.1
atom_prints (atom.Compare left rel.Ge right) h = sums_compared left right rel.Ge h.0 h.1

item_prints : (i : Item) → IsItem i → PrintsOpen (item_text i) (ItemText i)
item_prints (item.Body p) h = pointer_applied (codes "body") p refl refl h
item_prints (item.Star x) h = starred x h
item_prints (item.Name x) h = name_prints x h

alternative_prints : (atoms : List Atom) → IsAlternative atoms → PrintsOpen (atoms_text atoms) (Atoms atoms)
alternative_prints [] h = absurd (omega (arith, h.0))
alternative_prints (a ∷ rest) h = separated_open (codes ", ") (Mark sign.Comma) atom_text AtomText IsAtom comma (λ rest. refl) atom_prints (a ∷ rest) h.1

-- ---- clauses

clause_prints : {A : Type 0} (f separator : List ℕ) (s : Line → Type 0) (text : A → List ℕ) (p : A → Line → Type 0) (good : A → Type 0) → begins_name f ≡ true → key_of f ≡ None →
    Prints separator s → Apart separator → ((a : A) → good a → PrintsOpen (text a) (p a)) → (xs : List A) → All good xs → Prints (clause_text (f ++ codes " ") separator text xs) (Clause f s p xs)
clause_prints f separator s text p good h k sep apart_sep item [] g = record { line = []; is = refl; closed = closed_none }
clause_prints f separator s text p good h k sep apart_sep item (x ∷ xs) g =
    let begin : Prints (f ++ codes " ") (Name f) = token (open_closed (name_open f h k) closed_blank (λ rest. refl)) in
    let items = separated_then separator s text p good (codes ";") end sep apart_sep (λ rest. refl) semicolon item (x ∷ xs) g in
    let whole : (f ++ codes " ") ++ (joined separator text (x ∷ xs) ++ codes ";") ≡ (f ++ codes " ") ++ joined separator text (x ∷ xs) ++ codes ";" = sym (append_assoc (f ++ codes " ") (joined separator text (x ∷ xs)) (codes ";")) in
    then_newline (regroup whole (begin ▸ items))

pub contract_prints : (c : Contract) → IsContract c → Prints (contract_text c) (ContractText c)
unfolding contract_text
contract_prints c h =
    let uses = clause_prints (codes "uses") (codes ", ") (Mark sign.Comma) (λ x. x) Name IsName refl refl comma (λ rest. refl) name_prints c.listed h.listed in
    let needs = clause_prints (codes "requires") (codes ", ") (Mark sign.Comma) atom_text AtomText IsAtom refl refl comma (λ rest. refl) atom_prints c.needs h.needs in
    let changes = clause_prints (codes "modifies") (codes ", ") (Mark sign.Comma) item_text ItemText IsItem refl refl comma (λ rest. refl) item_prints c.changes h.changes in
    let gives = clause_prints (codes "ensures") (codes " | ") (Mark sign.Bar) atoms_text Atoms IsAlternative refl refl (token closed_bar) (λ rest. refl) alternative_prints c.gives h.gives in
    let whole : clause_text (codes "uses ") (codes ", ") (λ x. x) c.listed ++ (clause_text (codes "requires ") (codes ", ") atom_text c.needs ++ (clause_text (codes "modifies ") (codes ", ") item_text c.changes ++ clause_text (codes "ensures ") (codes " | ") atoms_text c.gives)) ≡ contract_text c = simp append_assoc in
    regroup whole (uses ▸ (needs ▸ (changes ▸ gives)))
