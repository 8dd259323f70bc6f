-- What the loops over the statements of a case, and over the blocks, keep.
use Rattle.std.proofs.Common.{◌≡◌, ℕ, suc, ◌<◌, List, [], ◌∷◌, ◌++◌, length, Ok, Err, refl, sym, ap, ◌∙◌, arith, ◌⊎◌, inl, inr}
use Rattle.std.proofs.lemmas.List.{length_push}
use Rattle.cv_num.specs.declared.rows.Row.{Row}
use Rattle.cv_cert.specs.declared.certificate.Block.{Block}
use Rattle.cv_cert.specs.declared.fault.ReadError.{ReadError}
use Rattle.cv_cert.specs.declared.fault.ReadError.TheVariants as errors
use Rattle.cv_cert.specs.Reading.{Outcome, many, Fails, left_of}
use Rattle.cv_cert.specs.Lines.{statement, block}
use Rattle.cv_cert.proofs.Laws.{Lines, onto_many, many_goes, many_ends, many_fails, shrinks}
use Rattle.cv_cert.proofs.Phrases.{statement_next, reads_statement, statement_is_long, block_next, reads_block, block_is_long}

pub nothing_before : {A E : Type 0} (o : Outcome (List A × E)) → onto_many [] o ≡ o
nothing_before (Ok p) = refl
nothing_before (Err at) = refl

-- ---- statements

abbrev pub statements_left : List (List Row) → Lines → Outcome (List (List Row) × List ℕ)
statements_left found ts = onto_many found (many statement statement_next (length found) ts)

pub statements_go : (found : List (List Row)) (n : ℕ) (ts : Lines) (rs : List Row) (after : Lines) → n ≡ length found → statement n ts ≡ Ok (inl rs, after) → statements_left found ts ≡ statements_left (found ++ rs ∷ []) after
statements_go found n ts rs after e h =
    many_goes statement_next reads_statement statement_is_long found (length found) ts rs after (ap (λ m. statement m ts) (sym e) ∙ h)
    ∙ ap (λ m. onto_many (found ++ rs ∷ []) (many statement statement_next m after)) (let k : suc (length found) ≡ length (found ++ rs ∷ []) = omega (arith, length_push found rs) in k)

pub statements_end : (found : List (List Row)) (n : ℕ) (ts : Lines) (picks : List ℕ) (after : Lines) → n ≡ length found → statement n ts ≡ Ok (inr picks, after) → statements_left found ts ≡ Ok ((found, picks), after)
statements_end found n ts picks after e h = many_ends statement_next reads_statement statement_is_long found (length found) ts picks after (ap (λ m. statement m ts) (sym e) ∙ h)

pub statements_fail : (found : List (List Row)) (n : ℕ) (ts : Lines) (d : ReadError) → n ≡ length found → Fails d (statement n ts) → Fails d (statements_left found ts)
statements_fail found n ts errors.Memory e h = tt
statements_fail found n ts (errors.Fault left) e h = many_fails statement_next reads_statement statement_is_long found (length found) ts left (ap (λ m. left_of (statement m ts)) (sym e) ∙ h)

pub statements_shrink : (n : ℕ) (ts : Lines) (x : List Row ⊎ List ℕ) (after : Lines) → statement n ts ≡ Ok (x, after) → length after < length ts
statements_shrink n ts x after h = shrinks statement_next reads_statement statement_is_long n ts x after h

-- ---- blocks

abbrev pub blocks_left : List Block → Lines → Outcome (List Block × Unit {0})
blocks_left found ts = onto_many found (many (λ s. block) block_next tt ts)

pub blocks_go : (found : List Block) (ts : Lines) (b : Block) (after : Lines) → block ts ≡ Ok (inl b, after) → blocks_left found ts ≡ blocks_left (found ++ b ∷ []) after
blocks_go found ts b after h = many_goes block_next (λ s. reads_block) block_is_long found tt ts b after h

pub blocks_end : (found : List Block) (ts : Lines) (after : Lines) → block ts ≡ Ok (inr tt, after) → blocks_left found ts ≡ Ok ((found, tt), after)
blocks_end found ts after h = many_ends block_next (λ s. reads_block) block_is_long found tt ts tt after h

pub blocks_fail : (found : List Block) (ts : Lines) (d : ReadError) → Fails d (block ts) → Fails d (blocks_left found ts)
blocks_fail found ts errors.Memory h = tt
blocks_fail found ts (errors.Fault left) h = many_fails block_next (λ s. reads_block) block_is_long found tt ts left h

pub blocks_shrink : (ts : Lines) (x : Block ⊎ Unit {0}) (after : Lines) → block ts ≡ Ok (x, after) → length after < length ts
blocks_shrink ts x after h = shrinks block_next (λ s. reads_block) block_is_long tt ts x after h
