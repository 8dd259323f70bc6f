-- Which texts spell a straight-line program, and what they are read as.
use Rattle.std.proofs.Common.{◌≡◌, ℕ, ◌≤◌, Bool, true, false, List, [], ◌∷◌, ◌++◌, length, Some, Ok, Err, pos, refl, sym, ap, subst, ◌∙◌, arith, ◌⊎◌, inl, inr, codes}
use Rattle.cv_core.specs.Grammar.{IsName, AreBytes, IsLocal, IsStmt, IsAtom, IsItem, IsAlternative, IsGlobalBody, IsProc, IsWritten}
use Rattle.cv_core.specs.declared.program.Program.{Program}
use Rattle.cv_core.specs.declared.program.Formal.{Formal}
use Rattle.cv_core.specs.declared.program.Stmt.{Stmt}
use Rattle.cv_core.specs.declared.program.Form.{Form}
use Rattle.cv_core.specs.declared.program.Form.TheVariants as form
use Rattle.cv_core.specs.declared.program.Operand.TheVariants as operand
use Rattle.cv_core.specs.declared.program.AnyOperand.TheVariants as any
use Rattle.cv_reading.specs.Phrase.{one, nothing, ◌⋅◌, Each}
use Rattle.cv_reading.specs.Reading.{Outcome, passed}
use Rattle.cv_reading.proofs.Laws.{Reads, Made, Or, Items, Until, BeginsElsewhere, reads_as, reads_made, reads_on, reads_both, reads_then, reads_ended, reads_many, behind_nothing, with_nothing, before_nothing, then_nothing, to_left, to_right, second_as, all_taken, all_again, ok_value, ok_rest}
use Rattle.cv_text.specs.declared.token.Key.TheVariants as key
use Rattle.cv_text.specs.declared.token.Sign.TheVariants as sign
use Rattle.cv_text.specs.declared.narrow.Locals.{Locals}
use Rattle.cv_text.specs.Tokens.{Lexeme, word, digits, mark, Line, lexemes}
use Rattle.cv_text.specs.Grammar.{Name, Word, Mark, Count, Size, end, Statement, LocalText, AsDeclared, is_pointer, variables_of}
use Rattle.cv_text.specs.Clauses.{ContractText}
use Rattle.cv_text.specs.Whole.{BodyText, ProcText, ProgramText, Spells}
use Rattle.cv_text.specs.Narrow.{IsMove, IsReturn, IsStraight, IsNarrow, buffer_local, pointer_local, main_alone, no_contract}
use Rattle.cv_text.specs.Given.{from}
use Rattle.cv_text.specs.WholeParts.{IsWhole}
use Rattle.cv_text.specs.Reader.{is_word}
use Rattle.cv_text.specs.NarrowReader.{statements, all_of, buffer, pointer, with_buffer_first, with_pointer_first, buffer_first, pointer_first, locals, locals_of, body, heading_and_body, narrow, program_of, main_of}
use Rattle.cv_text.proofs.Singles.{only_word, same_bytes, reads_the_name, reads_the_word, reads_the_mark, reads_semicolon, reads_a_name, reads_count, reads_size}
use Rattle.cv_text.proofs.Straight.{Written, StepText, reads_statement, statement_is_long}
use Rattle.cv_text.proofs.Written.{AllFine, split, each_by, none_of, each_fine, written_fine, local_fine, lexemes_fine}

-- ---- statements

abbrev Straight : List ℕ → List ℕ → List Stmt → Line → Type 0
Straight b p stmts text = IsStraight b p stmts × Each Written stmts text

straight_on : (b p : List ℕ) (s : Stmt) (xs : List Stmt) → IsMove b p s.form → IsStraight b p xs → IsStraight b p (s ∷ xs)
straight_on b p s [] m h = absurd h
straight_on b p s (t ∷ ts) m h = (m, h)

items_are : (b p : List ℕ) (moves : List Stmt) (last : Stmt) (text : Line) → Items (StepText b p) moves last text → Straight b p (moves ++ last ∷ []) text
items_are b p [] last text (r, w) = (r, then_nothing (Written last) text w)
items_are b p (s ∷ moves) last text (front, rest, (m, w), k, parts) =
    let below : Straight b p (moves ++ last ∷ []) rest = items_are b p moves last rest k in
    (straight_on b p s (moves ++ last ∷ []) m below.0, (front, rest, w, below.1, parts))

abbrev Stepwise : List ℕ → List ℕ → List Stmt → Line → Type 0
Stepwise b p = Made all_of (Until (StepText b p))

items_back : (b p : List ℕ) (stmts : List Stmt) (text : Line) → Straight b p stmts text → Stepwise b p stmts text
items_back b p [] text (h, k) = absurd h
items_back b p (s ∷ []) text (h, k) = (([], s), refl, (h, before_nothing (Written s) text k))
items_back b p (s ∷ t ∷ stmts) text ((m, h), (front, rest, w, k, parts)) =
    let below : Stepwise b p (t ∷ stmts) rest = items_back b p (t ∷ stmts) rest (h, k) in
    ((s ∷ below.0.0, below.0.1), ap (λ (u : List Stmt). s ∷ u) below.1, (front, rest, (m, w), below.2, parts))

stepwise_is : (b p : List ℕ) (stmts : List Stmt) (text : Line) → Stepwise b p stmts text → Straight b p stmts text
stepwise_is b p stmts text (v, e, h) = subst (λ (u : List Stmt). Straight b p u text) (sym e) (items_are b p v.0 v.1 text h)

a_return : Stmt
a_return = record { line = 0; form = form.Return (Some (any.Operand (operand.Number (pos 0)))) }

a_return_text : Line
a_return_text = digits (48 ∷ []) ∷ mark sign.Colon ∷ word key.Return ∷ digits (48 ∷ []) ∷ mark sign.Semicolon ∷ []

returns : (b p : List ℕ) → StepText b p (Err a_return) a_return_text
unfolding a_return a_return_text
returns b p =
    let zero_is : (n : ℕ) → n ≡ 0 → Count n (digits (48 ∷ []) ∷ []) = λ n e. (omega arith, omega arith, (48 ∷ [], sym e, refl)) in
    (tt, (digits (48 ∷ []) ∷ [], _, zero_is 0 refl, (mark sign.Colon ∷ [], _, refl, (word key.Return ∷ [], _, refl, (digits (48 ∷ []) ∷ [], _, inl (0, refl, zero_is 0 refl), refl, refl), refl), refl), refl))

reads_statements : (b p : List ℕ) → Reads (statements b p) (Straight b p)
unfolding statements
reads_statements b p = reads_as (reads_made all_of (reads_many (reads_statement b p) (statement_is_long b p) a_return a_return_text (returns b p))) (stepwise_is b p) (items_back b p)

-- ---- locals

abbrev BufferText : List ℕ × ℕ → Line → Type 0
BufferText v = Name v.0 ⋅ Size v.1 ⋅ end

abbrev PointerText : List ℕ → Line → Type 0
PointerText x = Name x ⋅ end

reads_buffer : Reads buffer BufferText
unfolding buffer
reads_buffer = reads_both reads_a_name (λ _. reads_ended reads_size reads_semicolon)

reads_pointer : Reads pointer PointerText
unfolding pointer
reads_pointer = reads_ended reads_a_name reads_semicolon

abbrev BufferFirst : Locals → Line → Type 0
BufferFirst = Made with_buffer_first (λ v. BufferText v.0 ⋅ Word key.Ptr ⋅ PointerText v.1)

abbrev PointerFirst : Locals → Line → Type 0
PointerFirst = Made with_pointer_first (λ v. Word key.Ptr ⋅ PointerText v.0 ⋅ Word key.Buf ⋅ BufferText v.1)

reads_buffer_first : Reads buffer_first BufferFirst
unfolding buffer_first
reads_buffer_first = reads_made with_buffer_first (reads_both reads_buffer (λ _. reads_then (reads_the_word key.Ptr) reads_pointer))

reads_pointer_first : Reads pointer_first PointerFirst
unfolding pointer_first
reads_pointer_first = reads_made with_pointer_first (reads_then (reads_the_word key.Ptr) (reads_both reads_pointer (λ _. reads_then (reads_the_word key.Buf) reads_buffer)))

abbrev LocalsText : Locals → Line → Type 0
LocalsText l = Each LocalText (locals_of l)

abbrev EitherFirst : Locals → Line → Type 0
EitherFirst = Or (λ l. one (word key.Buf) ⋅ BufferFirst l) PointerFirst

pointer_elsewhere : BeginsElsewhere (λ t. passed (is_word key.Buf t)) PointerFirst
pointer_elsewhere l text (v, e, (front, rest, h, k, parts)) = (word key.Ptr, rest, parts ∙ ap (λ (u : Line). u ++ rest) h, refl)

locals_are : (l : Locals) (text : Line) → EitherFirst l text → LocalsText l text
locals_are l text (inl (w, r1, w_is, (v, e, h), p1)) =
    let parted : ((Word key.Buf ⋅ BufferText v.0) ⋅ (Word key.Ptr ⋅ PointerText v.1)) text = to_left (Word key.Buf) (BufferText v.0) (Word key.Ptr ⋅ PointerText v.1) text (w, r1, w_is, h, p1) in
    let whole : LocalsText (with_buffer_first v) text = second_as (Word key.Buf ⋅ BufferText v.0) (Word key.Ptr ⋅ PointerText v.1) ((Word key.Ptr ⋅ PointerText v.1) ⋅ nothing) (then_nothing (Word key.Ptr ⋅ PointerText v.1)) text parted in
    subst (λ (m : Locals). LocalsText m text) (sym e) whole
locals_are l text (inr (v, e, h)) =
    let parted : ((Word key.Ptr ⋅ PointerText v.0) ⋅ (Word key.Buf ⋅ BufferText v.1)) text = to_left (Word key.Ptr) (PointerText v.0) (Word key.Buf ⋅ BufferText v.1) text h in
    let whole : LocalsText (with_pointer_first v) text = second_as (Word key.Ptr ⋅ PointerText v.0) (Word key.Buf ⋅ BufferText v.1) ((Word key.Buf ⋅ BufferText v.1) ⋅ nothing) (then_nothing (Word key.Buf ⋅ BufferText v.1)) text parted in
    subst (λ (m : Locals). LocalsText m text) (sym e) whole

abbrev locals_by : List ℕ → ℕ → List ℕ → Bool → Locals
locals_by b n p first = record { buffer = b; size = n; pointer = p; buffer_first = first }

locals_back_by : (b : List ℕ) (n : ℕ) (p : List ℕ) (first : Bool) (text : Line) → LocalsText (locals_by b n p first) text → EitherFirst (locals_by b n p first) text
locals_back_by b n p true text h =
    let D : Line → Type 0 = BufferText (b, n) in
    let P : Line → Type 0 = Word key.Ptr ⋅ PointerText p in
    let parted : ((Word key.Buf ⋅ D) ⋅ P) text = second_as (Word key.Buf ⋅ D) (P ⋅ nothing) P (before_nothing P) text h in
    let q = to_right (Word key.Buf) D P text parted in
    inl (q.0, q.1, q.2, (((b, n), p), refl, q.3), q.4)
locals_back_by b n p false text h =
    let D : Line → Type 0 = Word key.Buf ⋅ BufferText (b, n) in
    let parted : ((Word key.Ptr ⋅ PointerText p) ⋅ D) text = second_as (Word key.Ptr ⋅ PointerText p) (D ⋅ nothing) D (before_nothing D) text h in
    inr ((p, (b, n)), refl, to_right (Word key.Ptr) (PointerText p) D text parted)

reads_locals : Reads locals LocalsText
unfolding locals
reads_locals = reads_as (reads_on (is_word key.Buf) (word key.Buf) refl (only_word key.Buf) reads_buffer_first reads_pointer_first pointer_elsewhere) locals_are (λ l text h. locals_back_by l.buffer l.size l.pointer l.buffer_first text h)

-- ---- the whole

abbrev pub Parts : Type 0
Parts = ℕ × (Locals × List Stmt)

abbrev Body : Locals × List Stmt → Line → Type 0
Body v = LocalsText v.0 ⋅ Straight v.0.buffer v.0.pointer v.1 ⋅ Mark sign.CloseBrace

abbrev pub MainText : Parts → Line → Type 0
MainText v = Count v.0 ⋅ Mark sign.Colon ⋅ Word key.Proc ⋅ Word key.Int ⋅ Name (codes "main") ⋅ Mark sign.Open ⋅ Mark sign.Close ⋅ Mark sign.OpenBrace ⋅ Body v.1

reads_body : Reads body Body
unfolding body
reads_body = reads_both reads_locals (λ l. reads_ended (reads_statements l.buffer l.pointer) (reads_the_mark sign.CloseBrace))

pub reads_narrow : Reads narrow MainText
unfolding narrow heading_and_body
reads_narrow = reads_both reads_count (λ _. reads_then (reads_the_mark sign.Colon) (reads_then (reads_the_word key.Proc) (reads_then (reads_the_word key.Int) (reads_then (reads_the_name (codes "main")) (reads_then (reads_the_mark sign.Open) (reads_then (reads_the_mark sign.Close) (reads_then (reads_the_mark sign.OpenBrace) reads_body)))))))

-- ---- as a program

declared : (vs : List Formal) (b p : List ℕ) → is_pointer vs p ≡ true → (f : Form) → IsMove b p f → AsDeclared vs f
declared vs b p h (form.Address x a) m = tt
declared vs b p h (form.Shift x y (operand.Number k)) m = subst (λ (z : List ℕ). is_pointer vs z ≡ true) (sym m.0) h
declared vs b p h (form.Shift x y (operand.Var z)) m = absurd m
declared vs b p h (form.Store x e) m = tt
declared vs b p h _ m = absurd m

returned_as : (vs : List Formal) (f : Form) → IsReturn f → AsDeclared vs f
returned_as vs (form.Return e) r = tt
returned_as vs _ r = absurd r

stmts_are : (vs : List Formal) (b p : List ℕ) → is_pointer vs p ≡ true → (stmts : List Stmt) (text : Line) → Straight b p stmts text → Each (Statement vs) stmts text
stmts_are vs b p d [] text (h, k) = absurd h
stmts_are vs b p d (s ∷ []) text (h, (front, rest, w, k, parts)) = (front, rest, (returned_as vs s.form h, w), k, parts)
stmts_are vs b p d (s ∷ t ∷ stmts) text ((m, h), (front, rest, w, k, parts)) = (front, rest, (declared vs b p d s.form m, w), stmts_are vs b p d (t ∷ stmts) rest (h, k), parts)

stmts_back : (vs : List Formal) (stmts : List Stmt) (text : Line) → Each (Statement vs) stmts text → Each Written stmts text
stmts_back vs [] text h = h
stmts_back vs (s ∷ stmts) text (front, rest, (d, w), k, parts) = (front, rest, w, stmts_back vs stmts rest k, parts)

own : (l : Locals) (first : Bool) → is_pointer (variables_of (locals_of (locals_by l.buffer l.size l.pointer first))) l.pointer ≡ true
own l true = rw (same_bytes l.pointer) refl
own l false = rw (same_bytes l.pointer) refl

abbrev Inside : Parts → Line → Type 0
Inside v = Mark sign.OpenBrace ⋅ Body v.1

body_is : (v : Parts) (text : Line) → Inside v text → BodyText [] (main_of v).body text
body_is v text (o, r1, o_is, (ls, r2, l_is, (ss, r3, s_is, e_is, p3), p2), p1) =
    (o, r1, o_is, (ls, r2, l_is, (ss, r3, stmts_are (variables_of (locals_of v.1.0)) v.1.0.buffer v.1.0.pointer (own v.1.0 v.1.0.buffer_first) v.1.1 ss s_is, e_is, p3), p2), p1)

no_clauses : ContractText no_contract []
no_clauses = ([], [], refl, ([], [], refl, ([], [], refl, refl, refl), refl), refl)

clauses_back : (text : Line) → ContractText no_contract text → text ≡ []
clauses_back text h = behind_nothing nothing text (behind_nothing (nothing ⋅ nothing) text (behind_nothing (nothing ⋅ nothing ⋅ nothing) text h))

main_is : (v : Parts) (text : Line) → MainText v text → ProcText (main_of v) text
main_is v text (c, r1, c_is, (q, r2, q_is, (w, r3, w_is, (i, r4, i_is, (m, r5, m_is, (o, r6, o_is, (k, r7, k_is, inside, p7), p6), p5), p4), p3), p2), p1) =
    let closed : (Mark sign.Close ⋅ ContractText no_contract ⋅ BodyText [] (main_of v).body) r6 = (k, r7, k_is, ([], r7, no_clauses, body_is v r7 inside, refl), p7) in
    (c, r1, c_is, (q, r2, q_is, (w, r3, w_is, (i, r4, i_is, (m, r5, m_is, (o, r6, o_is, with_nothing (Mark sign.Close ⋅ ContractText no_contract ⋅ BodyText [] (main_of v).body) r6 closed, p6), p5), p4), p3), p2), p1)

program_is : (v : Parts) (text : Line) → MainText v text → ProgramText (program_of v) text
program_is v text h =
    let listed : (ProcText (main_of v) ⋅ nothing) text = then_nothing (ProcText (main_of v)) text (main_is v text h) in
    with_nothing (nothing ⋅ ProcText (main_of v) ⋅ nothing) text (with_nothing (ProcText (main_of v) ⋅ nothing) text listed)

-- ---- and back

body_back : (v : Parts) → IsStraight v.1.0.buffer v.1.0.pointer v.1.1 → (text : Line) → BodyText [] (main_of v).body text → Inside v text
body_back v st text (o, r1, o_is, (ls, r2, l_is, (ss, r3, s_is, e_is, p3), p2), p1) =
    (o, r1, o_is, (ls, r2, l_is, (ss, r3, (st, stmts_back (variables_of (locals_of v.1.0)) v.1.1 ss s_is), e_is, p3), p2), p1)

main_back : (v : Parts) → IsStraight v.1.0.buffer v.1.0.pointer v.1.1 → (text : Line) → ProcText (main_of v) text → MainText v text
main_back v st text (c, r1, c_is, (q, r2, q_is, (w, r3, w_is, (i, r4, i_is, (m, r5, m_is, (o, r6, o_is, rest, p6), p5), p4), p3), p2), p1) =
    let a = behind_nothing (Mark sign.Close ⋅ ContractText no_contract ⋅ BodyText [] (main_of v).body) r6 rest in
    let b : BodyText [] (main_of v).body a.1 = (let h = a.3 in subst (λ (u : Line). BodyText [] (main_of v).body u) (sym (h.4 ∙ ap (λ (u : Line). u ++ h.1) (clauses_back h.0 h.2))) h.3) in
    (c, r1, c_is, (q, r2, q_is, (w, r3, w_is, (i, r4, i_is, (m, r5, m_is, (o, r6, o_is, (a.0, a.1, a.2, body_back v st a.1 b, a.4), p6), p5), p4), p3), p2), p1)

program_back : (v : Parts) → IsStraight v.1.0.buffer v.1.0.pointer v.1.1 → (text : Line) → ProgramText (program_of v) text → MainText v text
program_back v st text h =
    let listed = behind_nothing (ProcText (main_of v) ⋅ nothing) text (behind_nothing (nothing ⋅ ProcText (main_of v) ⋅ nothing) text h) in
    main_back v st text (before_nothing (ProcText (main_of v)) text listed)

-- ---- what is read is spelled so and narrow

straight_in : (v : Parts) (text : Line) → MainText v text → IsStraight v.1.0.buffer v.1.0.pointer v.1.1
straight_in v text (c, r1, c_is, (q, r2, q_is, (w, r3, w_is, (i, r4, i_is, (m, r5, m_is, (o, r6, o_is, (k, r7, k_is, (z, r8, z_is, (ls, r9, l_is, (ss, r10, s_is, e_is, p10), p9), p8), p7), p6), p5), p4), p3), p2), p1) = s_is.0

pub is_spelled : (text : List ℕ) (v : Parts) → narrow (lexemes text) ≡ Ok (v, []) → Spells text (program_of v)
is_spelled text v e = record { tokens = program_is v (lexemes text) (all_taken reads_narrow (lexemes text) v e) }

parts_by : (v : Parts) (first : Bool) → (main_alone v.0 (locals_of (locals_by v.1.0.buffer v.1.0.size v.1.0.pointer first)) v.1.1 ≡ main_alone v.0 (buffer_local v.1.0.buffer v.1.0.size ∷ pointer_local v.1.0.pointer ∷ []) v.1.1) ⊎ (main_alone v.0 (locals_of (locals_by v.1.0.buffer v.1.0.size v.1.0.pointer first)) v.1.1 ≡ main_alone v.0 (pointer_local v.1.0.pointer ∷ buffer_local v.1.0.buffer v.1.0.size ∷ []) v.1.1)
parts_by v true = inl refl
parts_by v false = inr refl

pub is_narrow : (text : List ℕ) (v : Parts) → narrow (lexemes text) ≡ Ok (v, []) → (v.1.0.buffer ≡ v.1.0.pointer → ⊥) → length v.1.1 ≤ 100 → IsNarrow (program_of v)
is_narrow text v e two few = record {
  line = v.0;
  buffer = v.1.0.buffer;
  size = v.1.0.size;
  pointer = v.1.0.pointer;
  stmts = v.1.1;
  parts = parts_by v v.1.0.buffer_first;
  two_names = two;
  few = few;
  straight = straight_in v (lexemes text) (all_taken reads_narrow (lexemes text) v e);
}

-- ---- what is spelled and narrow is read

pub record ReadAs (text : List ℕ) (P : Program) : Type 0 where
  pub parts : Parts
  pub same : P ≡ program_of parts
  pub read : narrow (lexemes text) ≡ Ok (parts, [])
  pub two_names : parts.1.0.buffer ≡ parts.1.0.pointer → ⊥
  pub few : length parts.1.1 ≤ 100

read_by : (text : List ℕ) (P : Program) (v : Parts) → P ≡ program_of v → Spells text P → (v.1.0.buffer ≡ v.1.0.pointer → ⊥) → length v.1.1 ≤ 100 → IsStraight v.1.0.buffer v.1.0.pointer v.1.1 → ReadAs text P
read_by text P v e s two few st =
    let whole : ProgramText (program_of v) (lexemes text) = subst (λ (Q : Program). ProgramText Q (lexemes text)) e s.tokens in
    record { parts = v; same = e; read = all_again reads_narrow v (lexemes text) (program_back v st (lexemes text) whole); two_names = two; few = few }

pub is_read : (text : List ℕ) (P : Program) → Spells text P → IsNarrow P → ReadAs text P
is_read text P s n = elim n.parts [
  | inl e ↦ read_by text P (n.line, (locals_by n.buffer n.size n.pointer true, n.stmts)) e s n.two_names n.few n.straight
  | inr e ↦ read_by text P (n.line, (locals_by n.buffer n.size n.pointer false, n.stmts)) e s n.two_names n.few n.straight
]

-- ---- what is read has the form of a program

written_by : (v : Parts) (text : Line) → MainText v text → AllFine text → IsWritten (program_of v)
written_by v text h fine =
    let a1 = split text h fine in
    let a2 = split a1.1 a1.3 a1.5 in
    let a3 = split a2.1 a2.3 a2.5 in
    let a4 = split a3.1 a3.3 a3.5 in
    let a5 = split a4.1 a4.3 a4.5 in
    let a6 = split a5.1 a5.3 a5.5 in
    let a7 = split a6.1 a6.3 a6.5 in
    let a8 = split a7.1 a7.3 a7.5 in
    let a9 = split a8.1 a8.3 a8.5 in
    let a10 = split a9.1 a9.3 a9.5 in
    let proc : IsProc (main_of v) = record {
      line = a1.2.1;
      name = refl;
      formals = none_of (λ f. IsName f.name);
      contract = record { listed = none_of IsName; needs = none_of IsAtom; changes = none_of IsItem; gives = none_of IsAlternative };
      body = (each_fine IsLocal LocalText local_fine (locals_of v.1.0) a9.0 a9.2 a9.4, each_fine IsStmt Written written_fine v.1.1 a10.0 a10.2.1 a10.4);
    } in
    record { globals = none_of (λ g. IsName g.name × IsGlobalBody g.body); literals = none_of (λ l. IsName l.name × AreBytes l.bytes); procs = each_by IsProc (main_of v) [] proc (none_of IsProc) }

pub is_written : (text : List ℕ) (v : Parts) → narrow (lexemes text) ≡ Ok (v, []) → IsWritten (program_of v)
is_written text v e = written_by v (lexemes text) (all_taken reads_narrow (lexemes text) v e) (lexemes_fine text)

-- ---- what the reader answers

pub same_parts : (text : List ℕ) (v : Parts) (rest : Line) (P : Program) → narrow (lexemes text) ≡ Ok (v, rest) → (r : ReadAs text P) → (r.parts ≡ v) × (rest ≡ [])
same_parts text v rest P e r = (ok_value r.parts v [] rest (sym r.read ∙ e), sym (ok_rest r.parts v [] rest (sym r.read ∙ e)))

not_both : (o : Outcome Lexeme Parts) (x : Parts × Line) (at : Line) → o ≡ Ok x → o ≡ Err at → ⊥
not_both (Ok y) x at h k = absurd cc
not_both (Err u) x at h k = absurd cc

pub none_at_fault : (text : List ℕ) (at : Line) (P : Program) → narrow (lexemes text) ≡ Err at → Spells text P → IsNarrow P → ⊥
none_at_fault text at P e s n = let r = is_read text P s n in not_both (narrow (lexemes text)) (r.parts, []) at r.read e

pub none_if_not_whole : (text : List ℕ) (at : ℕ) (v : Parts) (P : Program) → narrow (lexemes text) ≡ Ok (v, from text at) → (IsWhole text at v.1.0 v.1.1 → ⊥) → Spells text P → IsNarrow P → ⊥
none_if_not_whole text at v P e not s n =
    let r = is_read text P s n in
    let k = same_parts text v (from text at) P e r in
    not (k.1, (λ h. subst (λ (w : Parts). w.1.0.buffer ≡ w.1.0.pointer → ⊥) k.0 r.two_names h), subst (λ (w : Parts). length w.1.1 ≤ 100) k.0 r.few)

pub the_one : (text : List ℕ) (v : Parts) (P : Program) → narrow (lexemes text) ≡ Ok (v, []) → Spells text P → IsNarrow P → program_of v ≡ P
the_one text v P e s n = let r = is_read text P s n in sym (r.same ∙ ap program_of (same_parts text v [] P e r).0)
