use Rattle.std.proofs.Common.{rules}
use Rattle.field_setter.proofs.Setting.{stable_by_closure}
use Rattle.field_setter.proofs.setter.sorted.Goals as goal

pub returns-clause-stable : goal.returns-clause-stable
returns-clause-stable c =
    stable_by_closure c.args.fields.items c.sort_by.new.self.items c.sort_by.ensures.stable
    (λ a o f called. search rules)
