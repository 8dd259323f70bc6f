-- What the lexer gives.
use Rattle.std.specs.Prelude.{◌≡◌, ℕ, ◌≤◌, Bool, false, List, [], ◌∷◌, drop, length, Option, Some, None}
use Rattle.cv_text.specs.declared.token.Token.{Token}
use Rattle.cv_text.specs.declared.token.Token.TheVariants as token
use Rattle.cv_text.specs.Tokens.{Lexeme, name, word, digits, mark, other, is_blank, lexemes}

-- what a token of the code is to the grammar
abbrev pub seen : Token → Lexeme
seen (token.Name x) = name x.now
seen (token.Word k) = word k
seen (token.Digits ds) = digits ds.now
seen (token.Mark s) = mark s
seen token.Other = other

-- The first token at or behind a place, and the place behind it.
abbrev pub IsNext : List ℕ → ℕ → Option Lexeme → ℕ → Type 0
IsNext text at None end = lexemes (drop at text) ≡ []
IsNext text at (Some t) end = lexemes (drop at text) ≡ t ∷ lexemes (drop end text)

abbrev pub begins_blank : List ℕ → Bool
begins_blank [] = false
begins_blank (c ∷ cs) = is_blank c

-- This is the place where the first token at or behind `from` begins, or the end.
pub record StandsAt (text : List ℕ) (from at : ℕ) : Type 0 where
  pub within : at ≤ length text
  pub same : lexemes (drop at text) ≡ lexemes (drop from text)
  pub no_blank : begins_blank (drop at text) ≡ false
