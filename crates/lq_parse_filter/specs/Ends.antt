-- The ends of ranges, and of what bounds name, as values.
use Rattle.std.specs.Prelude.{ℤ}
use Rattle.time_text.specs.declared.bound.Span.{Span}
use Rattle.lq_grammar.specs.Values as value
use Rattle.lq_parse_filter.specs.declared.number.Bound.{Bound}
use Rattle.lq_parse_filter.specs.declared.number.Bound.TheVariants.{Number, Infinite, MinusInfinite}

abbrev pub end_of : Bound → value.End
end_of (Number z) = value.number z
end_of Infinite = value.infinite
end_of MinusInfinite = value.minus_infinite

-- the first and the last moment
abbrev pub ends_of : Span → ℤ × ℤ
ends_of span = (span.from, span.to)
