use Rattle.std.proofs.Common.{◌≡◌, ◌∙◌, List, Some, ap, rules, sym, ℕ}
use Rattle.block_format.specs.Spelling.{block_bytes}
use Rattle.block_format.proofs.ReadAgain.{written-again}
use Rattle.column_block.proofs.block.Block.to_bytes.Goals as goal

pub returns-clause-written : goal.returns-clause-written
returns-clause-written c =
    let bytes : c.put.new.out.items ≡ block_bytes c.args.self.now = search rules in
    c.in_ok-put.ensures.written ∙ ap (λ (l : List ℕ). Some l) (sym bytes)

pub returns-clause-again : goal.returns-clause-again
returns-clause-again c = written-again c.args.self.now c.put.new.out.items (returns-clause-written c)
