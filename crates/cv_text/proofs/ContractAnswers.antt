-- What the reader of a contract alone answers.
use Rattle.std.proofs.Common.{◌≡◌, ℕ, Bool, true, false, List, [], ◌∷◌, Option, Some, None, Ok, Err, refl, sym, ap, subst, ◌∙◌}
use Rattle.cv_core.specs.Grammar.{IsContract}
use Rattle.cv_core.specs.declared.program.Contract.{Contract}
use Rattle.cv_reading.specs.Fault.{FirstFault}
use Rattle.cv_reading.proofs.Laws.{ok_rest}
use Rattle.cv_reading.proofs.Deep.{some_is, some_not_none, whole_is, whole_again, halted, left_over, given_up, not_halted, not_left}
use Rattle.cv_text.specs.declared.faults.TextFault.{TextFault}
use Rattle.cv_text.specs.Tokens.{Line, lexemes}
use Rattle.cv_text.specs.Seen.{StandsAt}
use Rattle.cv_text.specs.Given.{from}
use Rattle.cv_text.specs.Lines.{line_of}
use Rattle.cv_text.specs.Clauses.{ContractText}
use Rattle.cv_text.specs.ContractReader.{contract}
use Rattle.cv_text.specs.ContractAnswers.{SpellsContract, is_shallow, ContractTooDeep, IsContractFault}
use Rattle.cv_text.proofs.Written.{lexemes_fine}
use Rattle.cv_text.proofs.WrittenContract.{contract_fine}
use Rattle.cv_text.proofs.ContractLists.{reads_contract}

pub contract_spelled : (text : List ℕ) (c : Contract) → contract (lexemes text) ≡ Ok (Some c, []) → SpellsContract text c × (is_shallow c ≡ true)
contract_spelled text c e = let x = whole_is reads_contract (lexemes text) c e in (record { tokens = x.0 }, x.1)

pub contract_formed : (text : List ℕ) (c : Contract) → contract (lexemes text) ≡ Ok (Some c, []) → IsContract c
contract_formed text c e = contract_fine c (lexemes text) (whole_is reads_contract (lexemes text) c e).0 (lexemes_fine text)

pub contract_again : (text : List ℕ) (c : Contract) → SpellsContract text c → is_shallow c ≡ true → contract (lexemes text) ≡ Ok (Some c, [])
contract_again text c s w = whole_again reads_contract c (lexemes text) s.tokens w

pub the_contract : (text : List ℕ) (c d : Contract) → contract (lexemes text) ≡ Ok (Some d, []) → SpellsContract text c → is_shallow c ≡ true → d ≡ c
the_contract text c d e s w = some_is d c [] [] (sym e ∙ contract_again text c s w)

pub no_contract_at_fault : (text : List ℕ) (c : Contract) (at : Line) → contract (lexemes text) ≡ Err at → SpellsContract text c → is_shallow c ≡ true → ⊥
no_contract_at_fault text c at e s w = (let k = sym e ∙ contract_again text c s w in absurd cc)

pub no_contract_too_deep : (text : List ℕ) (c : Contract) (at : Line) → contract (lexemes text) ≡ Ok (None, at) → SpellsContract text c → is_shallow c ≡ true → ⊥
no_contract_too_deep text c at e s w = some_not_none c [] at (sym (contract_again text c s w) ∙ e)

pub no_contract_before_more : (text : List ℕ) (c d : Contract) (at : Line) → contract (lexemes text) ≡ Ok (Some d, at) → (at ≡ [] → ⊥) → SpellsContract text c → is_shallow c ≡ true → ⊥
no_contract_before_more text c d at e more s w = more (sym (ok_rest (Some c) (Some d) [] at (sym (contract_again text c s w) ∙ e)))

pub contract_fault : (text : List ℕ) (at : ℕ) (fault : TextFault) → contract (lexemes text) ≡ Err (from text at) → StandsAt text at fault.at → fault.line ≡ line_of text fault.at → IsContractFault text fault
contract_fault text at fault e s l = record {
  first = subst (λ (ts : Line). FirstFault ContractText (lexemes text) ts) (sym s.same) (halted reads_contract (lexemes text) (from text at) e);
  place = record { within = s.within; same = refl; no_blank = s.no_blank };
  line = l;
  levels = not_halted reads_contract (lexemes text) (from text at) e;
}

pub contract_fault_behind : (text : List ℕ) (d : Contract) (at : ℕ) (fault : TextFault) → contract (lexemes text) ≡ Ok (Some d, from text at) → (from text at ≡ [] → ⊥) → StandsAt text at fault.at → fault.line ≡ line_of text fault.at → IsContractFault text fault
contract_fault_behind text d at fault e more s l = record {
  first = subst (λ (ts : Line). FirstFault ContractText (lexemes text) ts) (sym s.same) (by_rest (from text at) e more);
  place = record { within = s.within; same = refl; no_blank = s.no_blank };
  line = l;
  levels = not_left reads_contract (lexemes text) d (from text at) e;
}
  where
    by_rest : (rest : Line) → contract (lexemes text) ≡ Ok (Some d, rest) → (rest ≡ [] → ⊥) → FirstFault ContractText (lexemes text) rest
    by_rest [] k m = absurd (m refl)
    by_rest (t ∷ ts) k m = left_over reads_contract (lexemes text) d t ts k

pub contract_too_deep : (text : List ℕ) (at : Line) → contract (lexemes text) ≡ Ok (None, at) → ContractTooDeep text
contract_too_deep text at e = given_up reads_contract (lexemes text) at e
