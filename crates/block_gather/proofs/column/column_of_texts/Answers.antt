use Rattle.std.proofs.Common.{◌∙◌, ℕ, List, Bor, ap, arith, map}
use Rattle.word_filter.specs.Words.{filter_of}
use Rattle.block_gather.proofs.WeightLaws.{weight-none, weight-some}
use Rattle.block_gather.proofs.column.column_of_texts.Goals as goal

pub returns-then-weight-lt1-clause-none : goal.returns-then-weight-lt1-clause-none
returns-then-weight-lt1-clause-none c =
    weight-none c.args.name (map (λ (t : Bor (List ℕ)). t.now) c.args.texts.now) (omega (
      arith,
      c.weight_of-weight.ensures,
      c.if-weight-lt1.true,
    ))

pub returns-clause-some : goal.returns-clause-some
returns-clause-some c = record {
  values = c.in_ok-values.ensures;
  bloom = c.in_ok-bloom.ensures.filter ∙ ap filter_of c.in_ok-values.ensures;
  small = c.in_ok-bloom.ensures.small;
  weight = c.weight_of-weight.ensures;
  used = weight-some c.args.name (map (λ (t : Bor (List ℕ)). t.now) c.args.texts.now) (omega (
    arith,
    c.weight_of-weight.ensures,
    c.if-weight-lt1.false,
  ));
}
