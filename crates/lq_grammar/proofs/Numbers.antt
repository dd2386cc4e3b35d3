-- The numbers of roles are small.
use Rattle.std.proofs.Common.{◌<◌, lit<}
use Rattle.lq_grammar.specs.declared.role.Role.{Role}
use Rattle.lq_grammar.specs.declared.role.Role.TheVariants.{And, Or, Not, Asc, Desc, As, Div, Mod, If, Fields, Delete}
use Rattle.lq_grammar.specs.declared.role.Role.TheVariants.{Rename, Copy, Limit, Head, Offset, Skip, Sort, Uniq, Stats}
use Rattle.lq_grammar.specs.declared.role.Role.TheVariants.{Filter, Top, Extract, Format, Len, Math, By, From, With}
use Rattle.lq_grammar.specs.declared.role.Role.TheVariants.{Hits, Count, CountEmpty, CountUniq, Sum, Min, Max}
use Rattle.lq_grammar.specs.declared.role.Role.TheVariants.{UniqValues, Bare, In, I, Seq, LenRange, StringRange, Range}
use Rattle.lq_grammar.specs.declared.role.Role.TheVariants.{Time, Stream, QuotedTime, Quoted, Bar, Open, Close}
use Rattle.lq_grammar.specs.declared.role.Role.TheVariants.{SquareOpen, SquareClose, CurlyOpen, CurlyClose, Comma}
use Rattle.lq_grammar.specs.declared.role.Role.TheVariants.{Colon, Equals, Bang, Tilde, Star, Less, Greater, Minus}
use Rattle.lq_grammar.specs.declared.role.Role.TheVariants.{Plus}
use Rattle.lq_grammar.specs.Roles.{number, apart_by}

pub number_bound : (role : Role) → number role < apart_by
number_bound And = lit< tt
number_bound Or = lit< tt
number_bound Not = lit< tt
number_bound Asc = lit< tt
number_bound Desc = lit< tt
number_bound As = lit< tt
number_bound Div = lit< tt
number_bound Mod = lit< tt
number_bound If = lit< tt
number_bound Fields = lit< tt
number_bound Delete = lit< tt
number_bound Rename = lit< tt
number_bound Copy = lit< tt
number_bound Limit = lit< tt
number_bound Head = lit< tt
number_bound Offset = lit< tt
number_bound Skip = lit< tt
number_bound Sort = lit< tt
number_bound Uniq = lit< tt
number_bound Stats = lit< tt
number_bound Filter = lit< tt
number_bound Top = lit< tt
number_bound Extract = lit< tt
number_bound Format = lit< tt
number_bound Len = lit< tt
number_bound Math = lit< tt
number_bound By = lit< tt
number_bound From = lit< tt
number_bound With = lit< tt
number_bound Hits = lit< tt
number_bound Count = lit< tt
number_bound CountEmpty = lit< tt
number_bound CountUniq = lit< tt
number_bound Sum = lit< tt
number_bound Min = lit< tt
number_bound Max = lit< tt
number_bound UniqValues = lit< tt
number_bound Bare = lit< tt
number_bound In = lit< tt
number_bound I = lit< tt
number_bound Seq = lit< tt
number_bound LenRange = lit< tt
number_bound StringRange = lit< tt
number_bound Range = lit< tt
number_bound Time = lit< tt
number_bound Stream = lit< tt
number_bound QuotedTime = lit< tt
number_bound Quoted = lit< tt
number_bound Bar = lit< tt
number_bound Open = lit< tt
number_bound Close = lit< tt
number_bound SquareOpen = lit< tt
number_bound SquareClose = lit< tt
number_bound CurlyOpen = lit< tt
number_bound CurlyClose = lit< tt
number_bound Comma = lit< tt
number_bound Colon = lit< tt
number_bound Equals = lit< tt
number_bound Bang = lit< tt
number_bound Tilde = lit< tt
number_bound Star = lit< tt
number_bound Less = lit< tt
number_bound Greater = lit< tt
number_bound Minus = lit< tt
number_bound Plus = lit< tt
