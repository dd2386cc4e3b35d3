use Rattle.std.proofs.Common.{◌≡◌, ◌∙◌, List, Some, ap, rules, sym, ℕ}
use Rattle.byte_format.proofs.Spellings.{reading-only}
use Rattle.part_file.specs.Again.{is_read_again}
use Rattle.part_file.specs.Format.{part, part_bytes, part_writing}
use Rattle.part_file.proofs.part.Part.to_bytes.Goals as goal

pub returns-clause-written : goal.returns-clause-written
returns-clause-written c =
    let bytes : c.put.new.out.items ≡ part_bytes c.args.self.now = search rules in
    c.in_ok-put.ensures.written ∙ ap (λ (l : List ℕ). Some l) (sym bytes)

pub returns-clause-again : goal.returns-clause-again
returns-clause-again c =
    reading-only part part_writing c.put.new.out.items c.args.self.now is_read_again (returns-clause-written c)
