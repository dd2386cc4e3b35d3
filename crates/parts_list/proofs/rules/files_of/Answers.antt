use Rattle.std.proofs.Common.{rules}
use Rattle.std.specs.Prelude.{map}
use Rattle.std.specs.BTreeSet as sorted
use Rattle.std.specs.Ordering.{nat_cmp}
use Rattle.std.proofs.lemmas.Cmp.{nat_cmp_total}
use Rattle.std.proofs.lemmas.Iterator.{YieldsList-from_slice, YieldsList-from_map}
use Rattle.std.proofs.lemmas.Iterator.Adapters.{fact_from_collect}
use Rattle.std.proofs.lemmas.Map.Views.{btree_set_len-from_list}
use Rattle.vl_vault.proofs.Tearing.{if_ok}
use Rattle.parts_list.specs.declared.list.Entry.{Entry}
use Rattle.parts_list.proofs.rules.files_of.Goals as goal

pub returns : goal.returns
returns c =
    let file = λ (entry : Entry). entry.file in
    if_ok c.collect.result (λ files has. btree_set_len-from_list nat_cmp_total (map file c.args.entries.now) files has)
    (fact_from_collect (sorted.IsFromIterResult nat_cmp) c.collect.result c.collect.ensures.ran
    (YieldsList-from_map _ file (YieldsList-from_slice c.args.entries.now cc) c.map.ensures.closure
    (λ x r q k. search rules)))
