use Rattle.std.proofs.Common.{◌≡◌, ◌++◌, List, Some, subst}
use Rattle.std.specs.Prelude.{OnOk}
use Rattle.block_format.specs.Reading.{block_writing}
use Rattle.block_format.specs.Spelling.{block_bytes}
use Rattle.log_model.specs.History.{Numbered}
use Rattle.column_block.proofs.block.Block.put.Goals as goal

pub returns-clause-bytes : goal.returns-clause-bytes
returns-clause-bytes c =
    subst (λ (rows : List Numbered). OnOk c.put.result (c.put.new.out.items ≡ c.args.out.now.items
    ++ block_bytes rows)) c.self.view_is c.put.ensures.bytes

pub returns-clause-written : goal.returns-clause-written
returns-clause-written c =
    subst (λ (rows : List Numbered). block_writing rows ≡ Some (block_bytes rows)) c.self.view_is c.put.ensures.written
