-- The readings of all lines: just the values that they spell.
use Rattle.std.proofs.Common.{◌≡◌, ℕ, zero, suc, ◌+◌, ◌<◌, ◌≤◌, ◌^◌, Bool, true, false, List, [], ◌∷◌, ◌++◌, length, map, Option, Some, None, option_map, refl, sym, ap, subst, ◌∙◌, arith, ◌⊎◌, inl, inr, codes, append_assoc, lit<}
use Rattle.std.proofs.lemmas.List.{append-nil}
use Rattle.std.specs.Fmt.{decimal}
use Rattle.std.specs.List.{AllByRecursion, flat_map}
use Rattle.cv_core.specs.Grammar.{IsName}
use Rattle.cv_num.specs.declared.rows.Row.{Row}
use Rattle.cv_farkas.specs.declared.steps.Step.{Step}
use Rattle.cv_cert.specs.declared.certificate.Block.{Block}
use Rattle.cv_cert.specs.declared.certificate.CertCase.{CertCase}
use Rattle.cv_cert.specs.Certificate.{Certificate, IsCertificate, IsNumber, IsSet, IsRow, AreRows, IsStatement, IsStep, IsCase, IsBlock}
use Rattle.cv_cert.specs.Text.{Line, numbered, set_line, row_line, statement_lines, picks_line, step_line, steps_line, case_lines, block_lines, lines_of}
use Rattle.cv_cert.specs.Tokens.{has_room}
use Rattle.cv_cert.specs.Reading.{Reading, one_line, each}
use Rattle.cv_cert.specs.Lines as spec
use Rattle.cv_cert.specs.Lines.{next_row_of, step_of, set_of, count_of, is_case, is_header, if_true, at_of, block_of, picks_of, statement_of, heading_of, is_end, or_else}
use Rattle.cv_cert.proofs.Laws.{Lines, Reads, Given, OneLine, Then, Each, Items, reads_give, reads_line, reads_bind, reads_as, reads_each, reads_many}
use Rattle.cv_cert.proofs.LineLaws.{Fitting, next_row_takes, next_row_again, step_takes, step_again, set_takes, set_again, count_takes, count_again, case_takes, case_again, header_takes, header_again, end_takes, end_again, if_true_is, at_takes, at_again, at_line, picks_takes, picks_again, ArePicks, block_takes, block_again, proc_line}
use Rattle.cv_cert.proofs.RowRoom.{can_follow, can_begin, needs_room}

-- ---- lines of one kind, each a value

abbrev Valid : {A : Type 0} → (A → Type 0) → (A → Line) → List A → Lines → Type 0
Valid V line xs text = AllByRecursion V xs × (text ≡ map line xs)

module _ {A : Type 0} (f : Line → Option A) (V : A → Type 0) (line : A → Line) (f_takes : (l : Line) (x : A) → f l ≡ Some x → (l ≡ line x) × V x) (f_again : (x : A) → V x → f (line x) ≡ Some x) (x : A) (valid : V x) where
  abbrev item : ℕ → Unit {0} → Reading A
  item n s = one_line f

  abbrev next : Unit {0} → A → Unit {0}
  next s y = tt

  abbrev spelled : ℕ → Unit {0} → A → Lines → Type 0
  spelled n s y text = OneLine f y text

  lines_to : (n : ℕ) (s : Unit {0}) (xs : List A) (text : Lines) → Each spelled next n s xs text → (length xs ≡ n) × Valid V line xs text
  lines_to zero s [] text h = (refl, (tt, h))
  lines_to zero s (y ∷ ys) text h = absurd h
  lines_to (suc n) s [] text h = absurd h
  lines_to (suc n) s (y ∷ ys) text h =
      let one = h.2 in
      let k = f_takes one.0 y one.1 in
      let r = lines_to n tt ys h.1 h.3 in
      let v = r.1 in
      let front : h.0 ≡ line y ∷ [] = one.2 ∙ ap (λ (l : Line). l ∷ []) k.0 in
      (ap suc r.0, ((k.1, v.0), h.4 ∙ ap (λ (u : Lines). u ++ h.1) front ∙ ap (λ (u : Lines). line y ∷ u) v.1))

  lines_from : (n : ℕ) (s : Unit {0}) (xs : List A) (text : Lines) → (length xs ≡ n) × Valid V line xs text → Each spelled next n s xs text
  lines_from zero s [] text h = (h.1).1
  lines_from zero s (y ∷ ys) text h = absurd (omega (arith, h.0))
  lines_from (suc n) s [] text h = absurd (omega (arith, h.0))
  lines_from (suc n) s (y ∷ ys) text h =
      let v = h.1 in
      let all = v.0 in
      (line y ∷ [], map line ys, (line y, f_again y all.0, refl), lines_from n tt ys (map line ys) (omega (arith, h.0), (all.1, refl)), v.1)

  reads_lines : (n : ℕ) → Reads (each item next n tt) (λ xs text. (length xs ≡ n) × Valid V line xs text)
  reads_lines n = reads_as (reads_each {item = item} {next = next} {p = spelled} (λ m s. Unit {0}) (λ m s c. reads_line f (line x) x (f_again x valid)) (λ m s y text c h. tt) n tt tt) (lines_to n tt) (lines_from n tt)

pub SetsText : ℕ → List (List ℕ) → Lines → Type 0
SetsText n ss text = (length ss ≡ n) × Valid IsSet set_line ss text

pub reads_set_lines : (n : ℕ) → Reads (spec.set_lines n) (SetsText n)
unfolding spec.set_lines SetsText
reads_set_lines n = reads_lines set_of IsSet set_line set_takes set_again [] (tt, tt) n

abbrev no_step : Step
no_step = record { d = 0; parts = [] }

pub StepsText : ℕ → List Step → Lines → Type 0
StepsText n ss text = (length ss ≡ n) × Valid IsStep step_line ss text

pub reads_step_lines : (n : ℕ) → Reads (spec.step_lines n) (StepsText n)
unfolding spec.step_lines StepsText
reads_step_lines n = reads_lines step_of IsStep step_line step_takes step_again no_step (lit< tt, tt) n

-- ---- the rows of a statement

abbrev row_next : Option Row → Row → Option Row
row_next before r = Some r

abbrev row_item : ℕ → Option Row → Reading Row
row_item left before = one_line (next_row_of left before)

abbrev row_spelled : ℕ → Option Row → Row → Lines → Type 0
row_spelled left before r text = OneLine (next_row_of left before) r text

-- n rows can stand behind one
abbrev Room : ℕ → Option Row → Type 0
Room n None = IsNumber n
Room n (Some r) = IsNumber n × IsRow r × (has_room n r.pairs ≡ true)

can_row : (n : ℕ) (before : Option Row) → Room (suc n) before → (r : Row) × Fitting n before r
can_row n None h = can_begin n
can_row n (Some r) h = can_follow n r h.0 h.1 h.2

fewer : (n : ℕ) (before : Option Row) → Room (suc n) before → IsNumber n
fewer n None h = omega (arith, h)
fewer n (Some r) h = omega (arith, h.0)

rows_to : (n : ℕ) (before : Option Row) (rs : List Row) (text : Lines) → Each row_spelled row_next n before rs text → (length rs ≡ n) × AreRows before rs × (text ≡ map row_line rs)
rows_to zero before [] text h = (refl, tt, h)
rows_to zero before (r ∷ rs) text h = absurd h
rows_to (suc n) before [] text h = absurd h
rows_to (suc n) before (r ∷ rs) text h =
    let one = h.2 in
    let k = next_row_takes n before one.0 r one.1 in
    let fit = k.1 in
    let m = rows_to n (Some r) rs h.1 h.3 in
    let front : h.0 ≡ row_line r ∷ [] = one.2 ∙ ap (λ (l : Line). l ∷ []) k.0 in
    (ap suc m.0, (fit.row, fit.after, m.1), h.4 ∙ ap (λ (u : Lines). u ++ h.1) front ∙ ap (λ (u : Lines). row_line r ∷ u) m.2)

rows_from : (n : ℕ) (before : Option Row) (rs : List Row) (text : Lines) → (length rs ≡ n) × AreRows before rs × (text ≡ map row_line rs) → Each row_spelled row_next n before rs text
rows_from zero before [] text h = h.2
rows_from zero before (r ∷ rs) text h = absurd (omega (arith, h.0))
rows_from (suc n) before [] text h = absurd (omega (arith, h.0))
rows_from (suc n) before (r ∷ rs) text h =
    let rows = h.1 in
    let len : length rs ≡ n = omega (arith, h.0) in
    let room : has_room n r.pairs ≡ true = ap (λ k. has_room k r.pairs) (sym len) ∙ needs_room rs r rows.0 rows.2 in
    (row_line r ∷ [], map row_line rs, (row_line r, next_row_again n before r (record { row = rows.0; after = rows.1; room = room }), refl), rows_from n (Some r) rs (map row_line rs) (len, rows.2, refl), h.2)

pub RowsText : ℕ → List Row → Lines → Type 0
RowsText n rs text = (length rs ≡ n) × AreRows None rs × (text ≡ map row_line rs)

pub reads_rows : (n : ℕ) → IsNumber n → Reads (spec.rows n) (RowsText n)
unfolding spec.rows RowsText
reads_rows n h = reads_as (reads_each {item = row_item} {next = row_next} {p = row_spelled} Room (λ m before room. (let w = can_row m before room in reads_line (next_row_of m before) (row_line w.0) w.0 (next_row_again m before w.0 w.1))) (λ m before r text room one. (let k = next_row_takes m before one.0 r one.1 in let fit = k.1 in (fewer m before room, fit.row, fit.room))) n None h) (rows_to n None) (rows_from n None)

-- ---- a statement, or the picks

or_some : {A : Type 0} (a b : Option A) (x : A) → or_else a b ≡ Some x → (a ≡ Some x) ⊎ (b ≡ Some x)
or_some (Some y) b x e = inl e
or_some None b x e = inr e

abbrev StartLine : ℕ → ℕ ⊎ List ℕ → Line → Type 0
StartLine n (inl rows) line = (line ≡ at_line n rows) × IsNumber n × IsNumber rows
StartLine n (inr picks) line = (line ≡ picks_line picks) × ArePicks picks

statement_takes : (n : ℕ) (line : Line) (x : ℕ ⊎ List ℕ) → statement_of n line ≡ Some x → StartLine n x line
unfolding statement_of
statement_takes n line x e = elim (or_some (option_map inl (at_of n line)) (option_map inr (picks_of line)) x e) [ inl h ↦ by_at (at_of n line) refl h | inr h ↦ by_picks (picks_of line) refl h ]
  where
    by_at : (o : Option ℕ) → at_of n line ≡ o → option_map inl o ≡ Some x → StartLine n x line
    by_at None p q = absurd cc
    by_at (Some rows) p q = (let same : inl rows ≡ x = cc in subst (λ (y : ℕ ⊎ List ℕ). StartLine n y line) same (at_takes n line rows p))

    by_picks : (o : Option (List ℕ)) → picks_of line ≡ o → option_map inr o ≡ Some x → StartLine n x line
    by_picks None p q = absurd cc
    by_picks (Some picks) p q = (let same : inr picks ≡ x = cc in subst (λ (y : ℕ ⊎ List ℕ). StartLine n y line) same (picks_takes line picks p))

at_start : (n rows : ℕ) → IsNumber n → IsNumber rows → statement_of n (at_line n rows) ≡ Some (inl rows)
unfolding statement_of
at_start n rows h k = ap (λ o. or_else (option_map inl o) (option_map inr (picks_of (at_line n rows)))) (at_again n rows h k)

picks_start : (n : ℕ) (picks : List ℕ) → ArePicks picks → statement_of n (picks_line picks) ≡ Some (inr picks)
unfolding statement_of at_of
picks_start n picks h = ap (option_map inr) (picks_again picks h)

pub StatementText : ℕ → List Row ⊎ List ℕ → Lines → Type 0
StatementText n (inl rs) text = IsNumber n × IsStatement rs × (text ≡ statement_lines n rs)
StatementText n (inr picks) text = ArePicks picks × (text ≡ picks_line picks ∷ [])

no_picks : ArePicks []
no_picks = (lit< tt, tt)

abbrev AfterStart : ℕ → ℕ ⊎ List ℕ → List Row ⊎ List ℕ → Lines → Type 0
AfterStart n (inl rows) x text = Then (RowsText rows) (λ rs. Given (inl rs)) x text
AfterStart n (inr picks) x text = Given (inr picks) x text

front_of : (line : Line) (front : Lines) (l : Line) → front ≡ l ∷ [] → l ≡ line → front ≡ line ∷ []
front_of line front l e k = e ∙ ap (λ (t : Line). t ∷ []) k

reads_after_start : (n : ℕ) (a : ℕ ⊎ List ℕ) (front : Lines) → OneLine (statement_of n) a front → Reads (spec.rows_or_picks a) (AfterStart n a)
reads_after_start n (inl rows) front h = (let k = statement_takes n h.0 (inl rows) h.1 in reads_bind (reads_rows rows k.2) (λ rs text r. reads_give (inl rs)))
reads_after_start n (inr picks) front h = reads_give (inr picks)

statement_to : (n : ℕ) (x : List Row ⊎ List ℕ) (text : Lines) → Then (OneLine (statement_of n)) (AfterStart n) x text → StatementText n x text
unfolding StatementText RowsText
statement_to n x text h = by_start h.0 h.1 h.2 h.3 h.4 h.5
  where
    by_start : (a : ℕ ⊎ List ℕ) (front rest : Lines) → OneLine (statement_of n) a front → AfterStart n a x rest → text ≡ front ++ rest → StatementText n x text
    by_start (inl rows) front rest one after parts =
        let k = statement_takes n one.0 (inl rows) one.1 in
        let rs = after.0 in
        let r = after.3 in
        let given = after.4 in
        let first : front ≡ at_line n rows ∷ [] = front_of (at_line n rows) front one.0 one.2 k.0 in
        let body : rest ≡ map row_line rs = after.5 ∙ ap (λ (u : Lines). after.1 ++ u) given.1 ∙ append-nil after.1 ∙ r.2 in
        let whole : text ≡ at_line n rows ∷ map row_line rs = parts ∙ ap (λ (u : Lines). u ++ rest) first ∙ ap (λ (u : Lines). at_line n rows ∷ u) body in
        let same : text ≡ statement_lines n rs = whole ∙ ap (λ (m : ℕ). at_line n m ∷ map row_line rs) (sym r.0) in
        subst (λ (y : List Row ⊎ List ℕ). StatementText n y text) (sym given.0) (k.1, (omega (arith, r.0, k.2), r.1), same)
    by_start (inr picks) front rest one after parts =
        let k = statement_takes n one.0 (inr picks) one.1 in
        let first : front ≡ picks_line picks ∷ [] = front_of (picks_line picks) front one.0 one.2 k.0 in
        let whole : text ≡ picks_line picks ∷ [] = parts ∙ ap (λ (u : Lines). u ++ rest) first ∙ ap (λ (u : Lines). picks_line picks ∷ u) after.1 in
        subst (λ (y : List Row ⊎ List ℕ). StatementText n y text) (sym after.0) (k.1, whole)

statement_from : (n : ℕ) (x : List Row ⊎ List ℕ) (text : Lines) → StatementText n x text → Then (OneLine (statement_of n)) (AfterStart n) x text
unfolding StatementText RowsText
statement_from n (inl rs) text h =
    let s = h.1 in
    (inl (length rs), at_line n (length rs) ∷ [], map row_line rs, (at_line n (length rs), at_start n (length rs) h.0 s.0, refl), (rs, map row_line rs, [], (refl, s.1, refl), (refl, refl), sym (append-nil (map row_line rs))), h.2)
statement_from n (inr picks) text h = (inr picks, picks_line picks ∷ [], [], (picks_line picks, picks_start n picks h.0, refl), (refl, refl), h.1)

pub reads_statement : (n : ℕ) → Reads (spec.statement n) (StatementText n)
unfolding spec.statement
reads_statement n = reads_as (reads_bind (reads_line (statement_of n) (picks_line []) (inr []) (picks_start n [] no_picks)) (reads_after_start n)) (statement_to n) (statement_from n)

pub statement_is_long : (n : ℕ) (x : List Row ⊎ List ℕ) (text : Lines) → StatementText n x text → 0 < length text
unfolding StatementText
statement_is_long n (inl rs) text h = omega (arith, ap length h.2)
statement_is_long n (inr picks) text h = omega (arith, ap length h.1)

-- ---- all statements of a case

abbrev pub statement_next : ℕ → List Row → ℕ
statement_next n rs = suc n

abbrev StatementsFrom : ℕ → List (List Row) → List ℕ → Lines → Type 0
StatementsFrom n rows picks text = (n + length rows ≤ 2 ^ 32) × AllByRecursion IsStatement rows × ArePicks picks × (text ≡ numbered statement_lines n rows ++ picks_line picks ∷ [])

statements_to : (n : ℕ) (rows : List (List Row)) (picks : List ℕ) (text : Lines) → n ≤ 2 ^ 32 → Items StatementText statement_next n rows picks text → StatementsFrom n rows picks text
unfolding StatementText
statements_to n [] picks text small h = (omega arith, tt, h.0, h.1)
statements_to n (rs ∷ rows) picks text small h =
    let one = h.2 in
    let m = statements_to (suc n) rows picks h.1 (omega (arith, one.0)) h.3 in (
      omega (arith, m.0),
      (one.1, m.1),
      m.2,
      h.4 ∙ ap (λ (u : Lines). u ++ h.1) one.2 ∙ ap (λ (u : Lines). statement_lines n rs ++ u) m.3 ∙ sym (append_assoc (statement_lines n rs) (numbered statement_lines (suc n) rows) (picks_line picks ∷ [])),
    )

statements_from : (n : ℕ) (rows : List (List Row)) (picks : List ℕ) (text : Lines) → StatementsFrom n rows picks text → Items StatementText statement_next n rows picks text
unfolding StatementText
statements_from n [] picks text h = (h.2, h.3)
statements_from n (rs ∷ rows) picks text h =
    let all = h.1 in (
      statement_lines n rs,
      numbered statement_lines (suc n) rows ++ picks_line picks ∷ [],
      (omega (arith, h.0), all.0, refl),
      statements_from (suc n) rows picks (numbered statement_lines (suc n) rows ++ picks_line picks ∷ []) (omega (arith, h.0), all.1, h.2, refl),
      h.3 ∙ append_assoc (statement_lines n rs) (numbered statement_lines (suc n) rows) (picks_line picks ∷ []),
    )

pub StatementsText : List (List Row) × List ℕ → Lines → Type 0
StatementsText x text = StatementsFrom 0 x.0 x.1 text

no_statement : (n : ℕ) → (picks : List ℕ) × (text : Lines) × StatementText n (inr picks) text
unfolding StatementText
no_statement n = ([], picks_line [] ∷ [], (no_picks, refl))

pub reads_statements : Reads spec.statements StatementsText
unfolding spec.statements StatementsText
reads_statements = reads_as (reads_many statement_next reads_statement statement_is_long no_statement 0) (λ x text h. statements_to 0 x.0 x.1 text (omega arith) h) (λ x text h. statements_from 0 x.0 x.1 text h)

-- ---- steps, and a case

pub StepsOf : List Step → Lines → Type 0
StepsOf ss text = IsNumber (length ss) × AllByRecursion IsStep ss × (text ≡ steps_line (length ss) ∷ map step_line ss)

abbrev CountedSteps : ℕ → List Step → Lines → Type 0
CountedSteps n ss text = StepsText n ss text

steps_to : (ss : List Step) (text : Lines) → Then (OneLine (count_of (codes "steps"))) CountedSteps ss text → StepsOf ss text
unfolding StepsOf StepsText
steps_to ss text h =
    let one = h.3 in
    let k = count_takes (codes "steps") one.0 h.0 one.1 in
    let m = h.4 in
    let v = m.1 in
    let first : h.1 ≡ steps_line h.0 ∷ [] = front_of (steps_line h.0) h.1 one.0 one.2 k.0 in
    (omega (arith, m.0, k.1), v.0, h.5 ∙ ap (λ (u : Lines). u ++ h.2) first ∙ ap (λ (u : Lines). steps_line h.0 ∷ u) v.1 ∙ ap (λ (n : ℕ). steps_line n ∷ map step_line ss) (sym m.0))

steps_from : (ss : List Step) (text : Lines) → StepsOf ss text → Then (OneLine (count_of (codes "steps"))) CountedSteps ss text
unfolding StepsOf StepsText
steps_from ss text h = (length ss, steps_line (length ss) ∷ [], map step_line ss, (steps_line (length ss), count_again (codes "steps") (length ss) h.0, refl), (refl, (h.1, refl)), h.2)

pub reads_steps : Reads spec.steps StepsOf
unfolding spec.steps
reads_steps = reads_as (reads_bind (reads_line (count_of (codes "steps")) (steps_line 0) 0 (count_again (codes "steps") 0 (lit< tt))) (λ n front h. reads_step_lines n)) steps_to steps_from

abbrev case_head : ℕ → Line → Option (Unit {0})
case_head n line = if_true (is_case n line)

abbrev made_case : List (List Row) × List ℕ → List Step → CertCase
made_case p ss = record { rows = p.0; picks = p.1; steps = ss }

abbrev CaseParts : Unit {0} → CertCase → Lines → Type 0
CaseParts u = Then StatementsText (λ p. Then StepsOf (λ ss. Given (made_case p ss)))

pub CaseText : ℕ → CertCase → Lines → Type 0
CaseText n c text = IsNumber n × IsCase c × (text ≡ case_lines n c)

abbrev case_line : ℕ → Line
case_line n = codes "case" ∷ decimal n ∷ []

case_to : (n : ℕ) (c : CertCase) (text : Lines) → Then (OneLine (case_head n)) CaseParts c text → CaseText n c text
unfolding CaseText StatementsText StepsOf
case_to n c text h =
    let one = h.3 in
    let k = case_takes n one.0 (if_true_is (is_case n one.0) h.0 one.1) in
    let first : h.1 ≡ case_line n ∷ [] = front_of (case_line n) h.1 one.0 one.2 k.0 in
    let parts = h.4 in
    let p = parts.0 in
    let s = parts.3 in
    let others = parts.4 in
    let ss = others.0 in
    let t = others.3 in
    let given = others.4 in
    let last : parts.2 ≡ steps_line (length ss) ∷ map step_line ss = others.5 ∙ ap (λ (u : Lines). others.1 ++ u) given.1 ∙ append-nil others.1 ∙ t.2 in
    let rest : h.2 ≡ numbered statement_lines 0 p.0 ++ (picks_line p.1 ∷ (steps_line (length ss) ∷ map step_line ss)) =
    parts.5 ∙ ap (λ (u : Lines). u ++ parts.2) s.3 ∙ ap (λ (u : Lines). (numbered statement_lines 0 p.0 ++ picks_line p.1 ∷ []) ++ u) last ∙ append_assoc (numbered statement_lines 0 p.0) (picks_line p.1 ∷ []) (steps_line (length ss) ∷ map step_line ss) in
    let picks = s.2 in
    let made : CaseText n (made_case p ss) text =
    (k.1, record { statements = omega (arith, s.0); rows = s.1; picks_listed = picks.0; picks = picks.1; steps_listed = t.0; steps = t.1 }, h.5 ∙ ap (λ (u : Lines). u ++ h.2) first ∙ ap (λ (u : Lines). case_line n ∷ u) rest) in
    subst (λ (d : CertCase). CaseText n d text) (sym given.0) made

case_from : (n : ℕ) (c : CertCase) (text : Lines) → CaseText n c text → Then (OneLine (case_head n)) CaseParts c text
unfolding CaseText StatementsText StepsOf
case_from n c text h =
    let k = h.1 in
    let stmts : Lines = numbered statement_lines 0 c.rows ++ picks_line c.picks ∷ [] in
    let steps : Lines = steps_line (length c.steps) ∷ map step_line c.steps in (
      tt,
      case_line n ∷ [],
      stmts ++ steps,
      (case_line n, ap if_true (case_again n h.0), refl),
      ((c.rows, c.picks), stmts, steps, (omega (arith, k.statements), k.rows, (k.picks_listed, k.picks), refl), (c.steps, steps, [], (k.steps_listed, k.steps, refl), (refl, refl), sym (append-nil steps)), refl),
      h.2 ∙ ap (λ (u : Lines). case_line n ∷ u) (sym (append_assoc (numbered statement_lines 0 c.rows) (picks_line c.picks ∷ []) steps)),
    )

pub reads_case : (n : ℕ) → IsNumber n → Reads (spec.a_case n) (CaseText n)
unfolding spec.a_case
reads_case n h = reads_as (reads_bind (reads_line (case_head n) (case_line n) tt (ap if_true (case_again n h))) (λ u front one. reads_bind reads_statements (λ p text s. reads_bind reads_steps (λ ss steps t. reads_give (made_case p ss))))) (case_to n) (case_from n)

-- ---- the cases of a block

abbrev pub case_next : ℕ → CertCase → ℕ
case_next i c = suc i

abbrev case_item : ℕ → ℕ → Reading CertCase
case_item left i = spec.a_case i

abbrev case_spelled : ℕ → ℕ → CertCase → Lines → Type 0
case_spelled left i c text = CaseText i c text

abbrev CanNumber : ℕ → ℕ → Type 0
CanNumber left i = left + i ≤ 2 ^ 32

cases_to : (n i : ℕ) (cs : List CertCase) (text : Lines) → Each case_spelled case_next n i cs text → (length cs ≡ n) × AllByRecursion IsCase cs × (text ≡ numbered case_lines i cs)
unfolding CaseText
cases_to zero i [] text h = (refl, tt, h)
cases_to zero i (c ∷ cs) text h = absurd h
cases_to (suc n) i [] text h = absurd h
cases_to (suc n) i (c ∷ cs) text h =
    let one = h.2 in
    let m = cases_to n (suc i) cs h.1 h.3 in
    (ap suc m.0, (one.1, m.1), h.4 ∙ ap (λ (u : Lines). u ++ h.1) one.2 ∙ ap (λ (u : Lines). case_lines i c ++ u) m.2)

cases_from : (n i : ℕ) (cs : List CertCase) (text : Lines) → CanNumber n i → (length cs ≡ n) × AllByRecursion IsCase cs × (text ≡ numbered case_lines i cs) → Each case_spelled case_next n i cs text
unfolding CaseText
cases_from zero i [] text can h = h.2
cases_from zero i (c ∷ cs) text can h = absurd (omega (arith, h.0))
cases_from (suc n) i [] text can h = absurd (omega (arith, h.0))
cases_from (suc n) i (c ∷ cs) text can h =
    let all = h.1 in
    (case_lines i c, numbered case_lines (suc i) cs, (omega (arith, can), all.0, refl), cases_from n (suc i) cs (numbered case_lines (suc i) cs) (omega (arith, can)) (omega (arith, h.0), all.1, refl), h.2)

pub CasesText : ℕ → List CertCase → Lines → Type 0
CasesText n cs text = (length cs ≡ n) × AllByRecursion IsCase cs × (text ≡ numbered case_lines 1 cs)

pub reads_cases : (n : ℕ) → IsNumber n → Reads (spec.cases n) (CasesText n)
unfolding spec.cases CasesText
reads_cases n h = let can : CanNumber n 1 = omega (arith, h) in
    reads_as (reads_each {item = case_item} {next = case_next} {p = case_spelled} CanNumber (λ m i k. reads_case i (omega (arith, k))) (λ m i c text k one. omega (arith, k)) n 1 can) (cases_to n 1) (λ cs text k. cases_from n 1 cs text can k)

-- ---- blocks

abbrev HeadingLine : (List ℕ × ℕ) ⊎ Unit {0} → Line → Type 0
HeadingLine (inl p) line = (line ≡ proc_line p.0 p.1) × IsName p.0 × IsNumber p.1
HeadingLine (inr u) line = line ≡ codes "end" ∷ []

heading_takes : (line : Line) (x : (List ℕ × ℕ) ⊎ Unit {0}) → heading_of line ≡ Some x → HeadingLine x line
unfolding heading_of
heading_takes line x e = elim (or_some (option_map inl (block_of line)) (option_map inr (if_true (is_end line))) x e) [ inl h ↦ by_block (block_of line) refl h | inr h ↦ by_end (is_end line) refl h ]
  where
    by_block : (o : Option (List ℕ × ℕ)) → block_of line ≡ o → option_map inl o ≡ Some x → HeadingLine x line
    by_block None p q = absurd cc
    by_block (Some b) p q = (let same : inl b ≡ x = cc in subst (λ (y : (List ℕ × ℕ) ⊎ Unit {0}). HeadingLine y line) same (block_takes line b p))

    by_end : (b : Bool) → is_end line ≡ b → option_map inr (if_true b) ≡ Some x → HeadingLine x line
    by_end false p q = absurd cc
    by_end true p q = (let same : inr tt ≡ x = cc in subst (λ (y : (List ℕ × ℕ) ⊎ Unit {0}). HeadingLine y line) same (end_takes line p))

block_start : (name : List ℕ) (n : ℕ) → IsName name → IsNumber n → heading_of (proc_line name n) ≡ Some (inl (name, n))
unfolding heading_of
block_start name n h k = ap (λ o. or_else (option_map inl o) (option_map inr (if_true (is_end (proc_line name n))))) (block_again name n h k)

end_start : (u : Unit {0}) → heading_of (codes "end" ∷ []) ≡ Some (inr u)
unfolding heading_of block_of
end_start u = ap (λ b. option_map inr (if_true b)) end_again

pub BlockText : Block ⊎ Unit {0} → Lines → Type 0
BlockText (inl b) text = IsBlock b × (text ≡ block_lines b)
BlockText (inr u) text = text ≡ (codes "end" ∷ []) ∷ []

abbrev made_block : List ℕ → List CertCase → Block
made_block name cs = record { name = name; cases = cs }

abbrev AfterHeading : (List ℕ × ℕ) ⊎ Unit {0} → Block ⊎ Unit {0} → Lines → Type 0
AfterHeading (inl p) x text = Then (CasesText p.1) (λ cs. Given (inl (made_block p.0 cs))) x text
AfterHeading (inr u) x text = Given (inr u) x text

reads_after_heading : (a : (List ℕ × ℕ) ⊎ Unit {0}) (front : Lines) → OneLine heading_of a front → Reads (spec.block_or_end a) (AfterHeading a)
reads_after_heading (inl p) front h = (let k = heading_takes h.0 (inl p) h.1 in reads_bind (reads_cases p.1 k.2) (λ cs text r. reads_give (inl (made_block p.0 cs))))
reads_after_heading (inr u) front h = reads_give (inr u)

block_to : (x : Block ⊎ Unit {0}) (text : Lines) → Then (OneLine heading_of) AfterHeading x text → BlockText x text
unfolding BlockText CasesText
block_to x text h = by_heading h.0 h.1 h.2 h.3 h.4 h.5
  where
    by_heading : (a : (List ℕ × ℕ) ⊎ Unit {0}) (front rest : Lines) → OneLine heading_of a front → AfterHeading a x rest → text ≡ front ++ rest → BlockText x text
    by_heading (inl p) front rest one after parts =
        let k = heading_takes one.0 (inl p) one.1 in
        let cs = after.0 in
        let r = after.3 in
        let given = after.4 in
        let first : front ≡ proc_line p.0 p.1 ∷ [] = front_of (proc_line p.0 p.1) front one.0 one.2 k.0 in
        let body : rest ≡ numbered case_lines 1 cs = after.5 ∙ ap (λ (u : Lines). after.1 ++ u) given.1 ∙ append-nil after.1 ∙ r.2 in
        let whole : text ≡ proc_line p.0 p.1 ∷ numbered case_lines 1 cs = parts ∙ ap (λ (u : Lines). u ++ rest) first ∙ ap (λ (u : Lines). proc_line p.0 p.1 ∷ u) body in
        let same : text ≡ block_lines (made_block p.0 cs) = whole ∙ ap (λ (m : ℕ). proc_line p.0 m ∷ numbered case_lines 1 cs) (sym r.0) in
        subst (λ (y : Block ⊎ Unit {0}). BlockText y text) (sym given.0) (record { name = k.1; cases_listed = omega (arith, r.0, k.2); cases = r.1 }, same)
    by_heading (inr u) front rest one after parts =
        let k = heading_takes one.0 (inr u) one.1 in
        let first : front ≡ (codes "end" ∷ []) ∷ [] = front_of (codes "end" ∷ []) front one.0 one.2 k in
        let whole : text ≡ (codes "end" ∷ []) ∷ [] = parts ∙ ap (λ (v : Lines). v ++ rest) first ∙ ap (λ (v : Lines). (codes "end" ∷ []) ∷ v) after.1 in
        subst (λ (y : Block ⊎ Unit {0}). BlockText y text) (sym after.0) whole

block_from : (x : Block ⊎ Unit {0}) (text : Lines) → BlockText x text → Then (OneLine heading_of) AfterHeading x text
unfolding BlockText CasesText
block_from (inl b) text h =
    let k = h.0 in
    let cs : Lines = numbered case_lines 1 b.cases in
    (inl (b.name, length b.cases), proc_line b.name (length b.cases) ∷ [], cs, (proc_line b.name (length b.cases), block_start b.name (length b.cases) k.name k.cases_listed, refl), (b.cases, cs, [], (refl, k.cases, refl), (refl, refl), sym (append-nil cs)), h.1)
block_from (inr u) text h = (inr u, (codes "end" ∷ []) ∷ [], [], (codes "end" ∷ [], end_start u, refl), (refl, refl), h)

pub reads_block : Reads spec.block BlockText
unfolding spec.block
reads_block = reads_as (reads_bind (reads_line heading_of (codes "end" ∷ []) (inr tt) (end_start tt)) reads_after_heading) block_to block_from

pub block_is_long : (s : Unit {0}) (x : Block ⊎ Unit {0}) (text : Lines) → BlockText x text → 0 < length text
unfolding BlockText
block_is_long s (inl b) text h = omega (arith, ap length h.1)
block_is_long s (inr u) text h = omega (arith, ap length h)

abbrev pub block_next : Unit {0} → Block → Unit {0}
block_next s b = tt

abbrev pub block_spelled : Unit {0} → Block ⊎ Unit {0} → Lines → Type 0
block_spelled s x text = BlockText x text

blocks_to : (s : Unit {0}) (bs : List Block) (u : Unit {0}) (text : Lines) → Items block_spelled block_next s bs u text → AllByRecursion IsBlock bs × (text ≡ flat_map block_lines bs ++ (codes "end" ∷ []) ∷ [])
unfolding BlockText
blocks_to s [] u text h = (tt, h)
blocks_to s (b ∷ bs) u text h =
    let one = h.2 in
    let m = blocks_to tt bs u h.1 h.3 in
    ((one.0, m.0), h.4 ∙ ap (λ (v : Lines). v ++ h.1) one.1 ∙ ap (λ (v : Lines). block_lines b ++ v) m.1 ∙ sym (append_assoc (block_lines b) (flat_map block_lines bs) ((codes "end" ∷ []) ∷ [])))

blocks_from : (s : Unit {0}) (bs : List Block) (u : Unit {0}) (text : Lines) → AllByRecursion IsBlock bs × (text ≡ flat_map block_lines bs ++ (codes "end" ∷ []) ∷ []) → Items block_spelled block_next s bs u text
unfolding BlockText
blocks_from s [] u text h = h.1
blocks_from s (b ∷ bs) u text h =
    let all = h.0 in
    let rest : Lines = flat_map block_lines bs ++ (codes "end" ∷ []) ∷ [] in
    (block_lines b, rest, (all.0, refl), blocks_from tt bs u rest (all.1, refl), h.1 ∙ append_assoc (block_lines b) (flat_map block_lines bs) ((codes "end" ∷ []) ∷ []))

pub BlocksText : List Block × Unit {0} → Lines → Type 0
BlocksText x text = AllByRecursion IsBlock x.0 × (text ≡ flat_map block_lines x.0 ++ (codes "end" ∷ []) ∷ [])

no_block : (s : Unit {0}) → (u : Unit {0}) × (text : Lines) × block_spelled s (inr u) text
unfolding BlockText
no_block s = (tt, (codes "end" ∷ []) ∷ [], refl)

pub reads_blocks : Reads spec.blocks BlocksText
unfolding spec.blocks BlocksText
reads_blocks = reads_as (reads_many block_next (λ s. reads_block) block_is_long no_block tt) (λ x text h. blocks_to tt x.0 x.1 text h) (λ x text h. blocks_from tt x.0 x.1 text h)

-- ---- all of a certificate

abbrev points_line : ℕ → Line
points_line n = codes "points" ∷ decimal n ∷ []

pub FamilyText : List (List ℕ) → Lines → Type 0
FamilyText ss text = IsNumber (length ss) × AllByRecursion IsSet ss × (text ≡ points_line (length ss) ∷ map set_line ss)

sets_to : (ss : List (List ℕ)) (text : Lines) → Then (OneLine (count_of (codes "points"))) SetsText ss text → FamilyText ss text
unfolding FamilyText SetsText
sets_to ss text h =
    let one = h.3 in
    let k = count_takes (codes "points") one.0 h.0 one.1 in
    let m = h.4 in
    let v = m.1 in
    let first : h.1 ≡ points_line h.0 ∷ [] = front_of (points_line h.0) h.1 one.0 one.2 k.0 in
    (omega (arith, m.0, k.1), v.0, h.5 ∙ ap (λ (u : Lines). u ++ h.2) first ∙ ap (λ (u : Lines). points_line h.0 ∷ u) v.1 ∙ ap (λ (n : ℕ). points_line n ∷ map set_line ss) (sym m.0))

sets_from : (ss : List (List ℕ)) (text : Lines) → FamilyText ss text → Then (OneLine (count_of (codes "points"))) SetsText ss text
unfolding FamilyText SetsText
sets_from ss text h = (length ss, points_line (length ss) ∷ [], map set_line ss, (points_line (length ss), count_again (codes "points") (length ss) h.0, refl), (refl, (h.1, refl)), h.2)

pub reads_sets : Reads spec.sets FamilyText
unfolding spec.sets
reads_sets = reads_as (reads_bind (reads_line (count_of (codes "points")) (points_line 0) 0 (count_again (codes "points") 0 (lit< tt))) (λ n front h. reads_set_lines n)) sets_to sets_from

abbrev header_line : Line
header_line = codes "cssv-cert" ∷ codes "1" ∷ []

abbrev header_head : Line → Option (Unit {0})
header_head line = if_true (is_header line)

abbrev made_certificate : List (List ℕ) → List Block × Unit {0} → Certificate
made_certificate ss bs = record { sets = ss; blocks = bs.0 }

abbrev CertificateParts : Unit {0} → Certificate → Lines → Type 0
CertificateParts u = Then FamilyText (λ ss. Then BlocksText (λ bs. Given (made_certificate ss bs)))

unfoldable pub CertificateText : Certificate → Lines → Type 0
CertificateText c text = IsCertificate c × (text ≡ lines_of c)

certificate_to : (c : Certificate) (text : Lines) → Then (OneLine header_head) CertificateParts c text → CertificateText c text
unfolding CertificateText FamilyText BlocksText
certificate_to c text h =
    let one = h.3 in
    let k = header_takes one.0 (if_true_is (is_header one.0) h.0 one.1) in
    let first : h.1 ≡ header_line ∷ [] = front_of header_line h.1 one.0 one.2 k in
    let parts = h.4 in
    let ss = parts.0 in
    let s = parts.3 in
    let others = parts.4 in
    let bs = others.0 in
    let t = others.3 in
    let given = others.4 in
    let last : parts.2 ≡ flat_map block_lines bs.0 ++ (codes "end" ∷ []) ∷ [] = others.5 ∙ ap (λ (u : Lines). others.1 ++ u) given.1 ∙ append-nil others.1 ∙ t.1 in
    let rest : h.2 ≡ points_line (length ss) ∷ (map set_line ss ++ (flat_map block_lines bs.0 ++ (codes "end" ∷ []) ∷ [])) =
    parts.5 ∙ ap (λ (u : Lines). u ++ parts.2) s.2 ∙ ap (λ (u : Lines). points_line (length ss) ∷ (map set_line ss ++ u)) last in
    let made : CertificateText (made_certificate ss bs) text =
    (record { sets_listed = s.0; sets = s.1; blocks = t.0 }, h.5 ∙ ap (λ (u : Lines). u ++ h.2) first ∙ ap (λ (u : Lines). header_line ∷ u) rest) in
    subst (λ (d : Certificate). CertificateText d text) (sym given.0) made

certificate_from : (c : Certificate) (text : Lines) → CertificateText c text → Then (OneLine header_head) CertificateParts c text
unfolding CertificateText FamilyText BlocksText
certificate_from c text h =
    let k = h.0 in
    let family : Lines = points_line (length c.sets) ∷ map set_line c.sets in
    let body : Lines = flat_map block_lines c.blocks ++ (codes "end" ∷ []) ∷ [] in (
      tt,
      header_line ∷ [],
      family ++ body,
      (header_line, ap if_true header_again, refl),
      (c.sets, family, body, (k.sets_listed, k.sets, refl), ((c.blocks, tt), body, [], (k.blocks, refl), (refl, refl), sym (append-nil body)), refl),
      h.1,
    )

pub reads_certificate : Reads spec.certificate CertificateText
unfolding spec.certificate
reads_certificate = reads_as (reads_bind (reads_line header_head header_line tt (ap if_true header_again)) (λ u front one. reads_bind reads_sets (λ ss text s. reads_bind reads_blocks (λ bs rest t. reads_give (made_certificate ss bs))))) certificate_to certificate_from
