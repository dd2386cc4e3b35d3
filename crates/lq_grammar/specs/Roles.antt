-- Classes of tokens, by what each token is to the grammar.
use Rattle.std.specs.Prelude.{ℕ, ◌+◌, List, [], ◌∷◌, ◌++◌, map}
use Rattle.grammar.specs.Rule.{Class}
use Rattle.lq_grammar.specs.declared.role.Role.{Role}
use Rattle.lq_grammar.specs.declared.role.Role.TheVariants.{And, Or, Not, Asc, Desc, As, Div, Mod, If, Fields, Delete}
use Rattle.lq_grammar.specs.declared.role.Role.TheVariants.{Rename, Copy, Limit, Head, Offset, Skip, Sort, Uniq, Stats}
use Rattle.lq_grammar.specs.declared.role.Role.TheVariants.{Filter, Top, Extract, Format, Len, Math, By, From, With}
use Rattle.lq_grammar.specs.declared.role.Role.TheVariants.{Hits, Count, CountEmpty, CountUniq, Sum, Min, Max}
use Rattle.lq_grammar.specs.declared.role.Role.TheVariants.{UniqValues, Bare, In, I, Seq, LenRange, StringRange, Range}
use Rattle.lq_grammar.specs.declared.role.Role.TheVariants.{Time, Stream, QuotedTime, Quoted, Bar, Open, Close}
use Rattle.lq_grammar.specs.declared.role.Role.TheVariants.{SquareOpen, SquareClose, CurlyOpen, CurlyClose, Comma}
use Rattle.lq_grammar.specs.declared.role.Role.TheVariants.{Colon, Equals, Bang, Tilde, Star, Less, Greater, Minus}
use Rattle.lq_grammar.specs.declared.role.Role.TheVariants.{Plus}

-- the number of each role, and so of the kind of a token that is not glued
abbrev pub number : Role → ℕ
number And = 0
number Or = 1
number Not = 2
number Asc = 3
number Desc = 4
number As = 5
number Div = 6
number Mod = 7
number If = 8
number Fields = 9
number Delete = 10
number Rename = 11
number Copy = 12
number Limit = 13
number Head = 14
number Offset = 15
number Skip = 16
number Sort = 17
number Uniq = 18
number Stats = 19
number Filter = 20
number Top = 21
number Extract = 22
number Format = 23
number Len = 24
number Math = 25
number By = 26
number From = 27
number With = 28
number Hits = 29
number Count = 30
number CountEmpty = 31
number CountUniq = 32
number Sum = 33
number Min = 34
number Max = 35
number UniqValues = 36
number Bare = 37
number In = 38
number I = 39
number Seq = 40
number LenRange = 41
number StringRange = 42
number Range = 43
number Time = 44
number Stream = 45
number QuotedTime = 46
number Quoted = 47
number Bar = 48
number Open = 49
number Close = 50
number SquareOpen = 51
number SquareClose = 52
number CurlyOpen = 53
number CurlyClose = 54
number Comma = 55
number Colon = 56
number Equals = 57
number Bang = 58
number Tilde = 59
number Star = 60
number Less = 61
number Greater = 62
number Minus = 63
number Plus = 64

-- how far the kinds of glued tokens are from those of the others
abbrev pub apart_by : ℕ
apart_by = 128

abbrev pub loose : List Role → Class
loose roles = map number roles

-- glued tokens of these roles
abbrev pub glued : List Role → Class
glued roles = map (λ k. k + apart_by) (loose roles)

-- tokens of these roles, glued or not
abbrev pub any : List Role → Class
any roles = loose roles ++ glued roles

-- ---- words

-- IN, I, SEQ, LEN_RANGE, STRING_RANGE and RANGE
abbrev pub calls : List Role
calls = In ∷ I ∷ Seq ∷ LenRange ∷ StringRange ∷ Range ∷ []

-- words that are names wherever a name may stand, but for BY, DIV, MOD, the words that call a filter, `_time` and
-- `_stream`
abbrev pub other_names : List Role
other_names =
    Fields ∷ Delete ∷ Rename ∷ Copy ∷ Limit ∷ Head ∷ Offset ∷ Skip ∷ Sort ∷ Uniq ∷ Stats ∷ Filter ∷ Top
    ∷ Extract ∷ Format ∷ Len ∷ Math ∷ From ∷ With ∷ Hits ∷ Count ∷ CountEmpty ∷ CountUniq ∷ Sum ∷ Min ∷ Max ∷ UniqValues
    ∷ Bare ∷ []

-- the same with BY, DIV and MOD
abbrev pub plain_names : List Role
plain_names = By ∷ Div ∷ Mod ∷ other_names

-- words that call nothing in a filter, but for `_time` and `_stream`
abbrev pub plain_words : List Role
plain_words = Asc ∷ Desc ∷ As ∷ If ∷ plain_names

-- Quoted
abbrev pub quoted : List Role
quoted = QuotedTime ∷ Quoted ∷ []

-- what may be a word, a name or an argument
abbrev pub words : List Role
words = plain_words ++ calls ++ Time ∷ Stream ∷ quoted

-- Bare
abbrev pub bares : List Role
bares = And ∷ Or ∷ Not ∷ plain_words ++ calls ++ Time ∷ Stream ∷ []

-- Bare, but for BY
abbrev pub other_bares : List Role
other_bares = And ∷ Or ∷ Not ∷ Asc ∷ Desc ∷ As ∷ If ∷ Div ∷ Mod ∷ other_names ++ calls ++ Time ∷ Stream ∷ []

-- names but for `_time` and `_stream`
abbrev pub common_names : List Role
common_names = plain_words ++ calls ++ Quoted ∷ []

-- Bare or Quoted
abbrev pub texts : List Role
texts = And ∷ Or ∷ Not ∷ words

-- names in a list in which `asc`, `desc` and `as` are keywords
abbrev pub list_names : List Role
list_names = If ∷ plain_names ++ calls ++ Time ∷ Stream ∷ quoted

-- the same where `if` may be a keyword, too
abbrev pub value_names : List Role
value_names = plain_names ++ calls ++ Time ∷ Stream ∷ quoted

-- names in a pipe that sets fields, in which `as`, `div` and `mod` are keywords
abbrev pub set_names : List Role
set_names = Asc ∷ Desc ∷ If ∷ By ∷ other_names ++ calls ++ Time ∷ Stream ∷ quoted

-- Bare operands in an expression, in which `as`, `div` and `mod` are keywords
abbrev pub atom_bares : List Role
atom_bares = And ∷ Or ∷ Not ∷ Asc ∷ Desc ∷ If ∷ By ∷ other_names ++ calls ++ Time ∷ Stream ∷ []

-- names but for `_time`
abbrev pub key_names : List Role
key_names = plain_words ++ calls ++ Stream ∷ quoted

-- ---- other classes

-- NOT, "!" and "-"
abbrev pub negations : List Role
negations = Not ∷ Bang ∷ Minus ∷ []

-- what a run goes on with
abbrev pub run_parts : List Role
run_parts = Colon ∷ Minus ∷ Plus ∷ bares
