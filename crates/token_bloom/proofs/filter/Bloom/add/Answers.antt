use Rattle.std.proofs.Common.{◌∙◌, ap}
use Rattle.token_bloom.specs.Filter.{may_have, with_hash}
use Rattle.token_bloom.proofs.Added.{word-added, word-kept}
use Rattle.token_bloom.proofs.filter.Bloom.add.Goals as goal

pub returns-clause-added : goal.returns-clause-added
returns-clause-added c some =
    ap (λ filter. may_have filter c.args.word.now) (c.add_hash.ensures
    ∙ ap (with_hash c.args.self.now) c.hash_of.ensures) ∙ word-added c.args.self.now c.args.word.now some

pub returns-clause-kept : goal.returns-clause-kept
returns-clause-kept c other there =
    ap (λ filter. may_have filter other) (c.add_hash.ensures ∙ ap (with_hash c.args.self.now) c.hash_of.ensures)
    ∙ word-kept c.args.self.now c.args.word.now other there
