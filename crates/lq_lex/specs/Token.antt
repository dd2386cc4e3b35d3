-- Tokens as values, without their addresses in memory.
use Rattle.std.specs.Prelude.{ℕ, Bool, List}
use Rattle.lq_lex.specs.declared.token.Kind.{Kind}
use Rattle.lq_lex.specs.declared.token.Token.{Token as RustToken}

-- `span` is in UTF-8, and `start` is its byte offset. A glued token directly follows another one, without white space.
pub record Token : Type 0 where
  pub kind : Kind
  pub span : List ℕ
  pub start : ℕ
  pub glued : Bool

-- the value of a token that the program holds
abbrev pub token_value : RustToken → Token
token_value t = record { kind = t.kind; span = t.span.now; start = t.start; glued = t.glued }
