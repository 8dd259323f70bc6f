-- What a program is read from.
use Rattle.std.proofs.Common.{◌≡◌, ℕ, ◌<◌, ◌^◌, Bool, true, false, ◌&&◌, ◌||◌, List, [], ◌∷◌, ◌++◌, length, Option, Some, None, Ok, Err, refl, sym, ap, subst, ◌∙◌, arith}
use Rattle.std.specs.List.{list_all}
use Rattle.cv_core.specs.declared.program.Program.{Program}
use Rattle.cv_core.specs.declared.program.GlobalDecl.{GlobalDecl}
use Rattle.cv_core.specs.declared.program.Literal.{Literal}
use Rattle.cv_core.specs.declared.program.Formal.{Formal}
use Rattle.cv_core.specs.declared.program.Contract.{Contract}
use Rattle.cv_core.specs.declared.program.Proc.{Proc}
use Rattle.cv_core.specs.declared.program.ProcBody.{ProcBody}
use Rattle.cv_reading.specs.Phrase.{◌⋅◌, Each, Separated}
use Rattle.cv_reading.specs.Reading.{Outcome, give}
use Rattle.cv_reading.specs.Deep.{Deep, plain, changed, next_by, repeat}
use Rattle.cv_reading.proofs.Laws.{Reads, Made, Token, reads_both, reads_then, reads_ended, to_left, to_right}
use Rattle.cv_reading.proofs.Deep.{ReadsDeep, Clear, none, clear_none, all_within, Avoids, Round, all_small, deep_plain, deep_as, deep_made, deep_both, deep_repeat, loop_ends, loop_goes, loop_fails, loop_cut, loop_shrinks}
use Rattle.cv_reading.proofs.Joined.{deep_up_to}
use Rattle.cv_text.specs.declared.token.Key.TheVariants as key
use Rattle.cv_text.specs.declared.token.Sign.TheVariants as sign
use Rattle.cv_text.specs.declared.nesting.NestedError.{NestedError}
use Rattle.cv_text.specs.declared.nesting.NestedError.TheVariants as errors
use Rattle.cv_text.specs.Given.{from}
use Rattle.cv_text.specs.Nested.{FailsNested}
use Rattle.cv_text.specs.Tokens.{Lexeme, name, word, digits, mark, other, Line}
use Rattle.cv_text.specs.Grammar.{Name, Word, Mark, Count, Answer, FormalText, GlobalText, LiteralText}
use Rattle.cv_text.specs.Clauses.{ContractText}
use Rattle.cv_text.specs.Whole.{BodyText, ProcText, ProgramText}
use Rattle.cv_text.specs.Reader.{is_word}
use Rattle.cv_text.specs.DeclarationReader.{is_some, globals, literals, body}
use Rattle.cv_text.specs.ProgramReader.{Heading, heading, Rest, proc_of, contract_and_body, proc_rest, line_of, procs_onto, procs, Parts, program_of, program}
use Rattle.cv_text.proofs.Singles.{within_is, within_back, reads_the_word, reads_the_mark, reads_a_name}
use Rattle.cv_text.proofs.DeclarationLaws.{reads_answer, Formals, reads_formals, reads_globals, reads_literals, reads_body}

-- ---- headings

abbrev HeadingText : Heading → Line → Type 0
HeadingText v = Mark sign.Colon ⋅ Word key.Proc ⋅ Answer v.0 ⋅ Name v.1.0 ⋅ Mark sign.Open ⋅ Formals v.1.1

reads_heading : Reads heading HeadingText
unfolding heading
reads_heading = reads_then (reads_the_mark sign.Colon) (reads_then (reads_the_word key.Proc) (reads_both reads_answer (λ _. reads_both reads_a_name (λ _. reads_then (reads_the_mark sign.Open) reads_formals))))

-- what stands behind a part of two, behind the second
pushed : {p q r s : Line → Type 0} → ((t : Line) → (q ⋅ r) t → s t) → (t : Line) → ((p ⋅ q) ⋅ r) t → (p ⋅ s) t
pushed {p} {q} {r} {s} f t h = let k = to_right p q r t h in (k.0, k.1, k.2, f k.1 k.3, k.4)

pulled : {p q r s : Line → Type 0} → ((t : Line) → s t → (q ⋅ r) t) → (t : Line) → (p ⋅ s) t → ((p ⋅ q) ⋅ r) t
pulled {p} {q} {r} {s} f t h = to_left p q r t (h.0, h.1, h.2, f h.1 h.3, h.4)

abbrev HeadingThen : Heading → (Line → Type 0) → Line → Type 0
HeadingThen v r = Mark sign.Colon ⋅ Word key.Proc ⋅ Answer v.0 ⋅ Name v.1.0 ⋅ Mark sign.Open ⋅ Separated (Mark sign.Comma) FormalText v.1.1 ⋅ Mark sign.Close ⋅ r

heading_right : (v : Heading) (r : Line → Type 0) (text : Line) → (HeadingText v ⋅ r) text → HeadingThen v r text
heading_right v r = pushed (pushed (pushed (pushed (pushed (to_right (Separated (Mark sign.Comma) FormalText v.1.1) (Mark sign.Close) r)))))

heading_left : (v : Heading) (r : Line → Type 0) (text : Line) → HeadingThen v r text → (HeadingText v ⋅ r) text
heading_left v r = pulled (pulled (pulled (pulled (pulled (to_left (Separated (Mark sign.Comma) FormalText v.1.1) (Mark sign.Close) r)))))

-- ---- what begins a part of a program

abbrev pub begins_part : Lexeme → Bool
begins_part t = is_word key.Global t || (is_word key.Literal t || is_some (line_of t))

or_false : (a b : Bool) → (a || b) ≡ false → (a ≡ false) × (b ≡ false)
or_false false b h = (refl, h)
or_false true b h = absurd cc

no_some : {A : Type 0} (o : Option A) → is_some o ≡ false → o ≡ None
no_some None h = refl
no_some (Some a) h = absurd cc

and_true : (a : Bool) → (true && (a && true)) ≡ a
and_true true = refl
and_true false = refl

no_global : (ts : Line) → Clear begins_part ts → Clear (is_word key.Global) ts
no_global [] h = tt
no_global (t ∷ ts) h = (or_false (is_word key.Global t) (is_word key.Literal t || is_some (line_of t)) h).0

no_literal : (ts : Line) → Clear begins_part ts → Clear (is_word key.Literal) ts
no_literal [] h = tt
no_literal (t ∷ ts) h = (or_false (is_word key.Literal t) (is_some (line_of t)) (or_false (is_word key.Global t) (is_word key.Literal t || is_some (line_of t)) h).1).0

no_line : (ts : Line) → Clear begins_part ts → Avoids line_of ts
no_line [] h = tt
no_line (t ∷ ts) h = no_some (line_of t) (or_false (is_word key.Literal t) (is_some (line_of t)) (or_false (is_word key.Global t) (is_word key.Literal t || is_some (line_of t)) h).1).1

-- a procedure begins neither a global nor a literal
procs_clear : (bars : Lexeme → Bool) → ((ds : List ℕ) → bars (digits ds) ≡ false) → (fs : List Proc) (text rest : Line) → Each ProcText fs text → Clear bars rest → Clear bars (text ++ rest)
procs_clear bars never [] text rest h clear = subst (λ (l : Line). Clear bars (l ++ rest)) (sym h) clear
procs_clear bars never (f ∷ fs) text rest (front, others, (c, r1, (low, high, (ds, v, is)), h, p1), more, parts) clear =
    let e : text ≡ digits ds ∷ (r1 ++ others) = parts ∙ ap (λ (l : Line). l ++ others) (p1 ∙ ap (λ (l : Line). l ++ r1) is) in
    subst (λ (l : Line). Clear bars (l ++ rest)) (sym e) (never ds)

literals_clear : (bars : Lexeme → Bool) → ((ds : List ℕ) → bars (digits ds) ≡ false) → bars (word key.Literal) ≡ false → (ls : List Literal) (fs : List Proc) (text rest : Line) → (Each LiteralText ls ⋅ Each ProcText fs) text → Clear bars rest → Clear bars (text ++ rest)
literals_clear bars never l [] fs text rest (front, others, n, h, parts) clear =
    let e : text ≡ others = parts ∙ ap (λ (u : Line). u ++ others) n in
    subst (λ (u : Line). Clear bars (u ++ rest)) (sym e) (procs_clear bars never fs others rest h clear)
literals_clear bars never l (x ∷ ls) fs text rest (front, others, (c, r1, (w, r2, is, k, p2), more, p1), h, parts) clear =
    let e : text ≡ word key.Literal ∷ ((r2 ++ r1) ++ others) = parts ∙ ap (λ (u : Line). u ++ others) (p1 ∙ ap (λ (u : Line). u ++ r1) (p2 ∙ ap (λ (u : Line). u ++ r2) is)) in
    subst (λ (u : Line). Clear bars (u ++ rest)) (sym e) l

-- ---- procedures

module _ (contract : Deep Lexeme Contract) (small : Contract → Bool) (bars : Lexeme → Bool) (by : ReadsDeep false bars small contract ContractText) (extern : bars (word key.Extern) ≡ false) (opening : bars (mark sign.OpenBrace) ≡ false) where
  body_clear : (fs : List Formal) (b : Option ProcBody) (text : Line) → BodyText fs b text → (rest : Line) → Clear bars (text ++ rest)
  body_clear fs None text (w, r1, is, h, p1) rest = subst (λ (u : Line). Clear bars (u ++ rest)) (sym (p1 ∙ ap (λ (u : Line). u ++ r1) is)) extern
  body_clear fs (Some b) text (w, r1, is, h, p1) rest = subst (λ (u : Line). Clear bars (u ++ rest)) (sym (p1 ∙ ap (λ (u : Line). u ++ r1) is)) opening

  abbrev RestText : List Formal → Rest → Line → Type 0
  RestText fs v = ContractText v.0 ⋅ BodyText fs v.1

  deep_rest : (fs : List Formal) → ReadsDeep false none (λ (v : Rest). small v.0 && true) (contract_and_body contract fs) (RestText fs)
  unfolding contract_and_body
  deep_rest fs = deep_both by (λ _. deep_plain (reads_body fs)) (λ c b text h rest clear. body_clear fs b text h rest)

  abbrev Behind : Heading × Rest → Line → Type 0
  Behind v = HeadingText v.0 ⋅ RestText v.0.1.1 v.1

  abbrev small_proc : Proc → Bool
  small_proc f = small f.contract

  deep_proc_rest : (line : ℕ) → ReadsDeep false none small_proc (proc_rest contract line) (Made (proc_of line) Behind)
  unfolding proc_rest
  deep_proc_rest line = deep_made (proc_of line) (deep_both (deep_plain reads_heading) (λ h. deep_rest h.1.1) (λ h v text k rest clear. clear_none (text ++ rest))) (λ v. sym (and_true (small v.1.0)))

  abbrev Lined : Proc → Line → Type 0
  Lined = Round line_of (λ line. Made (proc_of line) Behind)

  proc_is : (f : Proc) (text : Line) → Lined f text → ProcText f text
  proc_is f text (line, (c, r1, (t, l, is), (v, e, h), p1)) =
      let whole : ProcText (proc_of line v) text = (c, r1, within_is 0 (2 ^ 31) t line c l is, heading_right v.0 (RestText v.0.1.1 v.1) r1 h, p1) in
      subst (λ (u : Proc). ProcText u text) (sym e) whole

  proc_back : (f : Proc) (text : Line) → ProcText f text → Lined f text
  proc_back f text (c, r1, (low, high, (ds, v, is)), h, p1) =
      (f.line, (c, r1, (digits ds, within_back 0 (2 ^ 31) f.line ds v low high, is), (((f.answer, (f.name, f.formals)), (f.contract, f.body)), refl, heading_left (f.answer, (f.name, f.formals)) (RestText f.formals (f.contract, f.body)) r1 h), p1))

  abbrev small_procs : List Proc → Bool
  small_procs fs = list_all small_proc fs

  each_is : (fs : List Proc) (text : Line) → Each Lined fs text → Each ProcText fs text
  each_is [] text h = h
  each_is (f ∷ fs) text (a, b, h, k, parts) = (a, b, proc_is f a h, each_is fs b k, parts)

  each_back : (fs : List Proc) (text : Line) → Each ProcText fs text → Each Lined fs text
  each_back [] text h = h
  each_back (f ∷ fs) text (a, b, h, k, parts) = (a, b, proc_back f a h, each_back fs b k, parts)

  deep_lined : ReadsDeep false begins_part (all_small small_proc) (repeat line_of (proc_rest contract)) (Each Lined)
  deep_lined = deep_repeat deep_proc_rest (λ t b h. refl) (λ ts clear. (no_line ts clear, clear_none ts))

  deep_procs : ReadsDeep false begins_part small_procs (procs contract) (Each ProcText)
  unfolding procs procs_onto
  deep_procs = deep_as (deep_made (λ (fs : List Proc). [] ++ fs) deep_lined (λ fs. refl)) (λ ts c. c) (λ fs text h. refl)
      (λ fs text h. each_is fs text (subst (λ (u : List Proc). Each Lined u text) (sym h.1) h.2))
      (λ fs text h. (fs, refl, each_back fs text h))

  -- ---- programs

  abbrev ProcsBehind : Parts → Line → Type 0
  ProcsBehind v = Each GlobalText v.0 ⋅ Each LiteralText v.1.0 ⋅ Each ProcText v.1.1

  abbrev small_parts : Parts → Bool
  small_parts v = true && (true && small_procs v.1.1)

  pub deep_program : ReadsDeep false begins_part small_parts (program contract) ProcsBehind
  unfolding program
  deep_program = deep_both (deep_up_to reads_globals) (λ _. deep_both (deep_up_to reads_literals) (λ _. deep_procs) (λ ls fs text h rest clear. procs_clear (is_word key.Literal) (λ ds. refl) fs text rest h (no_literal rest clear)))
      (λ gs v text h rest clear. literals_clear (is_word key.Global) (λ ds. refl) refl v.0 v.1 text rest h (no_global rest clear))

  -- ---- a loop over the procedures

  between : (t : Lexeme) (line : ℕ) → line_of t ≡ Some line → none t ≡ false
  between t line h = refl

  ends : (ts : Line) → Clear begins_part ts → Avoids line_of ts × Clear none ts
  ends ts clear = (no_line ts clear, clear_none ts)

  pub procs_end : (before : List Proc) (ts : Line) → next_by line_of ts ≡ None → procs_onto contract before ts ≡ Ok (Some before, ts)
  unfolding procs_onto
  procs_end before ts e = loop_ends deep_proc_rest between ends before ts e

  pub procs_go : (before : List Proc) (ts : Line) (line : ℕ) (behind : Line) (f : Proc) (after : Line) → next_by line_of ts ≡ Some (line, behind) → proc_rest contract line behind ≡ Ok (Some f, after) → procs_onto contract before ts ≡ procs_onto contract (before ++ f ∷ []) after
  unfolding procs_onto
  procs_go before ts line behind f after e k = loop_goes deep_proc_rest between ends before ts line behind f after e k

  pub procs_fail : (text : List ℕ) (e : NestedError) (before : List Proc) (ts : Line) (line : ℕ) (behind : Line) → next_by line_of ts ≡ Some (line, behind) → FailsNested text e (proc_rest contract line behind) → FailsNested text e (procs_onto contract before ts)
  unfolding procs_onto
  procs_fail text errors.Memory before ts line behind e h = tt
  procs_fail text (errors.Fault at) before ts line behind e h = loop_fails deep_proc_rest between ends before ts line behind (from text at) e h
  procs_fail text (errors.Nesting at) before ts line behind e h = loop_cut deep_proc_rest between ends before ts line behind (from text at) e h

  pub procs_shrink : (ts : Line) (line : ℕ) (behind : Line) (f : Proc) (after : Line) → next_by line_of ts ≡ Some (line, behind) → proc_rest contract line behind ≡ Ok (Some f, after) → length after < length ts
  procs_shrink ts line behind f after e k = loop_shrinks deep_proc_rest between ends ts line behind f after e k
