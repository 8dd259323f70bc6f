-- How each word and each sign is written.
use Rattle.std.specs.Prelude.{ℕ, List, [], ◌∷◌, codes}
use Rattle.cv_text.specs.declared.token.Key.{Key}
use Rattle.cv_text.specs.declared.token.Key.TheVariants as key
use Rattle.cv_text.specs.declared.token.Sign.{Sign}
use Rattle.cv_text.specs.declared.token.Sign.TheVariants as sign

abbrev pub key_text : Key → List ℕ
key_text key.Global = codes "global"
key_text key.Buf = codes "buf"
key_text key.Ptr = codes "ptr"
key_text key.Int = codes "int"
key_text key.Literal = codes "literal"
key_text key.Proc = codes "proc"
key_text key.Void = codes "void"
key_text key.Char = codes "char"
key_text key.Extern = codes "extern"
key_text key.Pptr = codes "pptr"
key_text key.Iptr = codes "iptr"
key_text key.Pcell = codes "pcell"
key_text key.Icell = codes "icell"
key_text key.Load = codes "load"
key_text key.Store = codes "store"
key_text key.Get = codes "get"
key_text key.Put = codes "put"
key_text key.Diff = codes "diff"
key_text key.Goto = codes "goto"
key_text key.If = codes "if"
key_text key.Call = codes "call"
key_text key.Return = codes "return"
key_text key.Null = codes "null"
key_text key.Result = codes "result"

abbrev pub keys : List Key
keys = key.Global ∷ key.Buf ∷ key.Ptr ∷ key.Int ∷ key.Literal ∷ key.Proc ∷ key.Void ∷ key.Char ∷ key.Extern ∷ key.Pptr ∷ key.Iptr ∷ key.Pcell
    ∷ key.Icell ∷ key.Load ∷ key.Store ∷ key.Get ∷ key.Put ∷ key.Diff ∷ key.Goto ∷ key.If ∷ key.Call ∷ key.Return ∷ key.Null ∷ key.Result ∷ []

abbrev pub sign_text : Sign → List ℕ
sign_text sign.Equal = codes "=="
sign_text sign.NotEqual = codes "!="
sign_text sign.AtMost = codes "<="
sign_text sign.AtLeast = codes ">="
sign_text sign.Assign = codes "="
sign_text sign.Less = codes "<"
sign_text sign.Greater = codes ">"
sign_text sign.Plus = codes "+"
sign_text sign.Minus = codes "-"
sign_text sign.Star = codes "*"
sign_text sign.Slash = codes "/"
sign_text sign.Percent = codes "%"
sign_text sign.And = codes "&"
sign_text sign.Bar = codes "|"
sign_text sign.Comma = codes ","
sign_text sign.Semicolon = codes ";"
sign_text sign.Colon = codes ":"
sign_text sign.Open = codes "("
sign_text sign.Close = codes ")"
sign_text sign.OpenBrace = codes "{"
sign_text sign.CloseBrace = codes "}"

-- The longer ones come first, so that the first that fits is the longest.
abbrev pub signs : List Sign
signs = sign.Equal ∷ sign.NotEqual ∷ sign.AtMost ∷ sign.AtLeast ∷ sign.Assign ∷ sign.Less ∷ sign.Greater ∷ sign.Plus ∷ sign.Minus ∷ sign.Star
    ∷ sign.Slash ∷ sign.Percent ∷ sign.And ∷ sign.Bar ∷ sign.Comma ∷ sign.Semicolon ∷ sign.Colon ∷ sign.Open ∷ sign.Close ∷ sign.OpenBrace ∷ sign.CloseBrace ∷ []

-- Bytes with which no token begins, though a shorter one would fit: the comments, the double plus and the hexadecimal prefix of C.
abbrev pub foreign : List (List ℕ)
foreign = codes "/*" ∷ codes "//" ∷ codes "++" ∷ codes "0x" ∷ []
