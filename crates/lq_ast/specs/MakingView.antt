-- What a pipe that sets fields is.
use Rattle.std.specs.Prelude.{map}
use Rattle.lq_ast.specs.Making.{Expression, Making, MathItem}
use Rattle.lq_ast.specs.Making as is
use Rattle.lq_ast.specs.PatternText.{PatternPiece, Pieces, plain, named}
use Rattle.lq_ast.specs.declared.pattern.Pattern.{Pattern}
use Rattle.lq_ast.specs.declared.pattern.Piece.{Piece}
use Rattle.lq_ast.specs.declared.pattern.Piece.TheVariants.{Plain, Name}
use Rattle.lq_ast.specs.declared.row_pipe.Expr.{Expr, fold-Expr}
use Rattle.lq_ast.specs.declared.row_pipe.Expr.TheOpen.{Expr-F}
use Rattle.lq_ast.specs.declared.row_pipe.MathItem.{MathItem as Item}
use Rattle.lq_ast.specs.declared.row_pipe.RowPipe.{RowPipe}
use Rattle.lq_ast.specs.declared.row_pipe.RowPipe.TheVariants.{Extract, Format, Len, Math}

abbrev pub pattern_piece : Piece → PatternPiece
pattern_piece (Plain text) = plain text
pattern_piece (Name name) = named name

abbrev pub pattern_pieces : Pattern → Pieces
pattern_pieces p = map pattern_piece p.pieces

abbrev layer : Expr-F Expression → Expression
layer (Expr-F.Whole n) = is.whole n
layer (Expr-F.Named field) = is.value_of field
layer (Expr-F.Two op left right) = is.two op left.value right.value

abbrev pub expression : Expr → Expression
expression = fold-Expr Expression layer

abbrev pub math_item : Item → MathItem
math_item i = (expression i.expr, i.name)

abbrev pub making : RowPipe → Making
making (Extract pattern from) = is.extract (pattern_pieces pattern) from
making (Format pattern name) = is.format (pattern_pieces pattern) name
making (Len from name) = is.len from name
making (Math items) = is.math (map math_item items)
