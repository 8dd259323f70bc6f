-- What a file gives, and a file that is refused.
use Rattle.std.proofs.Common.{◌≡◌, ℕ, ◌<◌, List, [], ◌∷◌, length, All, Bool, true, false, cond, Option, None, Some, Result, Ok, Err, IfSome, refl, sym, ◌∙◌, ap, rules, arith, subst}
use Rattle.std.specs.List.{find}
use Rattle.cv_core.specs.declared.faults.LimitFault.{LimitFault}
use Rattle.cv_core.specs.declared.faults.LimitName.{LimitName}
use Rattle.cv_core.specs.declared.faults.LimitName.TheVariants as limit
use Rattle.cv_core.specs.declared.program.Program.{Program}
use Rattle.cv_core.specs.Limits.{first_limit, is_passed, tested, IsFirstLimit}
use Rattle.cv_text.specs.Whole.{Spells}
use Rattle.cv_text.specs.Readings.{Unread, Faulty, Nested, IsReading}
use Rattle.cv_text.specs.Printed.{program_text}
use Rattle.cv_text.specs.Tokens.{Line, lexemes}
use Rattle.cv_text.specs.ProgramReader.{Parts, is_within, program}
use Rattle.cv_text.specs.ContractReader.{contract}
use Rattle.cv_text.proofs.OneReading.{reads_program, reads_fault, reads_nested}
use Rattle.cv_text.proofs.CoreAnswers.{the_one, none_at_fault, none_before_more, none_too_deep}
use Rattle.cv_meaning.specs.Clean.{Clean}
use Rattle.cv_io.specs.Files.{Files, HoldsMore}
use Rattle.cv_app.specs.declared.served.Served.{Served}
use Rattle.cv_app.specs.declared.fault.Fault.{Fault}
use Rattle.cv_app.specs.declared.fault.Fault.TheVariants.{Usage, NotBuilt, Text, Limit, Shape, Read, Memory}
use Rattle.cv_app.specs.Answers.{Answers}
use Rattle.cv_app.specs.Check as check
use Rattle.cv_app.specs.Check.{HasCleanProgram}
use Rattle.cv_app.specs.Commands.{Command, Check, Core, Run, Unknown}
use Rattle.cv_app.specs.Core.{Cores, core_answer}
use Rattle.cv_app.specs.Decided.{outcome_of, reading_of, IsTextFault}
use Rattle.cv_app.specs.Faults.{refusal_of, LoadRefused, UnlessHindered}
use Rattle.cv_app.specs.Programs.{IsCName, Gives, Found, by_limit, found_by, BytesGive, CText, CoreText, FileGives, TooLong, Bytes}
use Rattle.cv_app.specs.Refusals.{IsFileLimit, IsFileFault, IsCheckLimit, IsCheckFault, IsRunLimit, IsRunFault, MayRefuse, MayPrint, file_of}
use Rattle.cv_app.specs.Runs as run
use Rattle.cv_app.specs.Served.{printed}
use Rattle.cv_app.proofs.Hindered.{unless_then, unless_err, not_read}

-- ---- a file gives one thing

one_program : (text : List ℕ) (p q : Program) → Spells text p → is_within p ≡ true → Spells text q → is_within q ≡ true → p ≡ q
one_program text p q s w t v = by_reader (program contract (lexemes text)) refl
  where
    by_reader : (r : Result (Option Parts × Line) Line) → program contract (lexemes text) ≡ r → p ≡ q
    by_reader (Ok (Some parts, [])) e = sym (the_one text parts p e s w) ∙ the_one text parts q e t v
    by_reader (Ok (Some parts, x ∷ xs)) e = absurd (none_before_more text parts (x ∷ xs) p e (λ h. absurd cc) s w)
    by_reader (Ok (None, at)) e = absurd (none_too_deep text at p e s w)
    by_reader (Err at) e = absurd (none_at_fault text at p e s w)

abbrev faulty : ℕ → Result Program Unread
faulty line = Err (Faulty line)

one_reading : (text : List ℕ) (r other : Result Program Unread) → IsReading text r → IsReading text other → other ≡ r
one_reading text (Ok p) other h k = reads_program text p h.0 h.1 (λ q s w. one_program text p q h.0 h.1 s w) other k
one_reading text (Err (Faulty n)) other h k = reads_fault text h.0 h.1 other k ∙ ap faulty (sym h.2)
one_reading text (Err Nested) other h k = reads_nested text h other k

one_given : (name bytes : List ℕ) (found other : Found) → BytesGive name bytes found → BytesGive name bytes other → other ≡ found
one_given name bytes found other (CText c e) (CText d f) = f ∙ sym e
one_given name bytes found other (CText c e) (CoreText n r h f) = absurd (n c)
one_given name bytes found other (CoreText n r h e) (CText d f) = absurd (n d)
one_given name bytes found other (CoreText n r h e) (CoreText m q k f) = f ∙ ap (found_by name) (one_reading bytes r q h k) ∙ sym e

-- no name has more bytes than so many, and at most so many
pub too_long_given : (files : Files) (name : List ℕ) (limit : ℕ) (bytes : List ℕ) → HoldsMore (Some files) name limit → Gives files name limit bytes → ⊥
too_long_given files name limit bytes more given =
    let here : limit < length bytes = rw given.there at more in
    let within = given.within in
    omega arith

-- one name has one content
pub same_bytes : (files : Files) (name : List ℕ) (limit : ℕ) (bytes other : List ℕ) → Gives files name limit bytes → Gives files name limit other → other ≡ bytes
same_bytes files name limit bytes other a b = let p = a.there in let q = b.there in cc

pub one_found : (files : Files) (name : List ℕ) (found other : Found) → FileGives files name found → FileGives files name other → other ≡ found
one_found files name found other (TooLong more e) (TooLong also f) = f ∙ sym e
one_found files name found other (TooLong more e) (Bytes bytes there h) = absurd (too_long_given files name 1048576 bytes more there)
one_found files name found other (Bytes bytes there h) (TooLong more f) = absurd (too_long_given files name 1048576 bytes more there)
one_found files name found other (Bytes bytes there h) (Bytes others here k) =
    one_given name bytes found other h (subst (λ (b : List ℕ). BytesGive name b other) (same_bytes files name 1048576 bytes others there here) k)

pub same_program : (files : Files) (name : List ℕ) (p q : Program) → FileGives files name (Ok p) → FileGives files name (Ok q) → q ≡ p
same_program files name p q h k = let e = one_found files name (Ok p) (Ok q) h k in cc

pub same_refusal : (files : Files) (name : List ℕ) (a b : Served) → FileGives files name (Err a) → FileGives files name (Err b) → b ≡ a
same_refusal files name a b h k = let e = one_found files name (Err a) (Err b) h k in cc

-- a file that is refused gives no program
pub no_program : (files : Files) (name : List ℕ) (refusal : Served) (p : Program) → FileGives files name (Err refusal) → FileGives files name (Ok p) → ⊥
no_program files name refusal p h k = let e = one_found files name (Err refusal) (Ok p) h k in cc

-- ---- what is found

-- a text that was refused
pub given_refused : (name bytes : List ℕ) (fault : Fault) → (IsCName name → ⊥) → IsTextFault fault → UnlessHindered {X = Program} (Err fault) (IsReading bytes (reading_of (Err fault))) →
    UnlessHindered {X = Program} (Err fault) (BytesGive name bytes (Err (refusal_of name fault)))
given_refused name bytes (Text n) plain known h = CoreText plain (Err (Faulty n)) h refl
given_refused name bytes (Limit limit.Nesting) plain known h = CoreText plain (Err Nested) h refl
given_refused name bytes Memory plain known h = tt
given_refused name bytes Read plain known h = tt
given_refused name bytes fault plain known h = absurd known

-- a program that was tested
pub given_formed : (name bytes : List ℕ) (p : Program) (result : Result Program Fault) → (IsCName name → ⊥) → IsReading bytes (Ok p) →
    UnlessHindered result (outcome_of name result ≡ by_limit name p (first_limit p)) → UnlessHindered result (BytesGive name bytes (outcome_of name result))
given_formed name bytes p result plain read h =
    unless_then Program result (outcome_of name result ≡ by_limit name p (first_limit p)) (BytesGive name bytes (outcome_of name result)) (λ e. CoreText plain (Ok p) read e) h

bytes_found : (told : Option Files) (name bytes : List ℕ) (found : Found) → IfSome told (λ files. Gives files name 1048576 bytes) → BytesGive name bytes found →
    IfSome told (λ files. FileGives files name found)
bytes_found None name bytes found there h = search rules
bytes_found (Some files) name bytes found there h = Bytes bytes there h

-- what was found of the bytes that were loaded
pub found_loaded : (told : Option Files) (name bytes shown : List ℕ) (result : Result Program Fault) → IfSome told (λ files. Gives files name 1048576 bytes) → shown ≡ bytes →
    UnlessHindered result (BytesGive name shown (outcome_of name result)) → UnlessHindered result (IfSome told (λ files. FileGives files name (outcome_of name result)))
found_loaded told name bytes shown result there same h =
    unless_then Program result (BytesGive name shown (outcome_of name result)) (IfSome told (λ files. FileGives files name (outcome_of name result)))
    (λ k. bytes_found told name bytes (outcome_of name result) there (subst (λ (b : List ℕ). BytesGive name b (outcome_of name result)) same k)) h

long_found : (told : Option Files) (name : List ℕ) → HoldsMore told name 1048576 → IfSome told (λ files. FileGives files name (Err (refusal_of name (Limit limit.File))))
long_found None name more = search rules
long_found (Some files) name more = TooLong more refl

-- a file that wasn't loaded
pub found_refused : (told : Option Files) (name : List ℕ) (f f' : ℕ) (fault : Fault) → LoadRefused told name 1048576 limit.File f f' fault →
    UnlessHindered {X = Program} (Err fault) (IfSome told (λ files. FileGives files name (Err (refusal_of name fault))))
found_refused told name f f' fault why =
    not_read Program limit.File (HoldsMore told name 1048576) f f' fault (λ e. IfSome told (λ files. FileGives files name (Err (refusal_of name e)))) why (long_found told name)

-- ---- a file that is refused, for every command

passes_first : (test : LimitName → Bool) (x which : LimitName) (rest : Option LimitName) (b : Bool) → (rest ≡ Some which → test which ≡ true) → test x ≡ b →
    cond b (Some x) rest ≡ Some which → test which ≡ true
passes_first test x which rest true later e h = let same : x ≡ which = cc in sym (ap test same) ∙ e
passes_first test x which rest false later e h = later h

-- what is found passes the test
found_passes : (test : LimitName → Bool) (names : List LimitName) (which : LimitName) → find test names ≡ Some which → test which ≡ true
found_passes test [] which h = absurd cc
found_passes test (x ∷ xs) which h = passes_first test x which (find test xs) (test x) (found_passes test xs which) refl h

passed_limit : (p : Program) (which : LimitName) → is_passed p which ≡ true → IsFileLimit which
passed_limit p limit.Certificate h = absurd cc
passed_limit p limit.Input h = absurd cc
passed_limit p limit.Cases h = absurd cc
passed_limit p limit.Variables h = absurd cc
passed_limit p limit.Transitions h = absurd cc
passed_limit p limit.Templates h = absurd cc
passed_limit p which h = tt

-- the limit that a program passes is one of a file
pub file_limit : (p : Program) (e : LimitFault) → IsFirstLimit p e → IsFileLimit e.which
file_limit p e h = passed_limit p e.which (found_passes (is_passed p) tested e.which h.first)

check_limit : (which : LimitName) → IsFileLimit which → IsCheckLimit which
check_limit limit.Certificate h = tt
check_limit which h = h

check_fault : (fault : Fault) → IsFileFault fault → IsCheckFault fault
check_fault (NotBuilt n) h = tt
check_fault (Limit which) h = check_limit which h
check_fault fault h = h

run_limit : (which : LimitName) → IsFileLimit which → IsRunLimit which
run_limit limit.Input h = tt
run_limit which h = h

run_fault : (fault : Fault) → IsFileFault fault → IsRunFault fault
run_fault Usage h = tt
run_fault (Limit which) h = run_limit which h
run_fault fault h = h

-- what refuses a file refuses a command
pub file_fault : (command : Command) (fault : Fault) → MayPrint command → IsFileFault fault → MayRefuse command fault
file_fault (Check file cert) fault may h = check_fault fault h
file_fault (Core file) fault may h = h
file_fault (Run file steps words input) fault may h = run_fault fault h
file_fault Unknown fault may h = absurd may

refused_answers : (told : Option Files) (command : Command) (a : Served) → MayPrint command → IfSome told (λ files. FileGives files (file_of command) (Err a)) → Answers told command a
refused_answers told Unknown a may h = absurd may
refused_answers None (Check file cert) a may h = search rules
refused_answers None (Core file) a may h = search rules
refused_answers None (Run file steps words input) a may h = search rules
refused_answers (Some files) (Check file cert) a may h = check.Refused h
refused_answers (Some files) (Core file) a may h = record { found = Err a; gives = h; is = refl }
refused_answers (Some files) (Run file steps words input) a may h = run.Refused a h refl

-- the answer of a command whose file is refused
pub file_refused : (X : Type 0) (told : Option Files) (command : Command) (fault : Fault) → MayPrint command →
    UnlessHindered {X = Program} (Err fault) (IfSome told (λ files. FileGives files (file_of command) (Err (refusal_of (file_of command) fault)))) →
    UnlessHindered {X = X} (Err fault) (Answers told command (refusal_of (file_of command) fault))
file_refused X told command fault may h =
    unless_err Program X fault (IfSome told (λ files. FileGives files (file_of command) (Err (refusal_of (file_of command) fault))))
    (Answers told command (refusal_of (file_of command) fault)) (refused_answers told command (refusal_of (file_of command) fault) may) h

-- ---- a file that gives a program

pub has_clean : (told : Option Files) (name : List ℕ) (p : Program) → IfSome told (λ files. FileGives files name (Ok p)) → Clean p → IfSome told (λ files. HasCleanProgram files name)
has_clean None name p h clean = search rules
has_clean (Some files) name p h clean = record { program = p; gives = h; only = λ q k. same_program files name p q h k; clean = clean }

-- a program that was printed
pub core_printed : (told : Option Files) (file text : List ℕ) (p : Program) → text ≡ program_text p → IfSome told (λ files. FileGives files file (Ok p)) → Answers told (Core file) (printed 0 text)
core_printed None file text p e h = search rules
core_printed (Some files) file text p e h = record { found = Ok p; gives = h; is = ap (λ (t : List ℕ). printed 0 t) e }

pub one_core : (files : Files) (file : List ℕ) (answer other : Served) → Cores files file answer → Cores files file other → other ≡ answer
one_core files file answer other c d = d.is ∙ ap core_answer (one_found files file c.found d.found c.gives d.gives) ∙ sym c.is
