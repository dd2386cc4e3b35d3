use Rattle.std.proofs.Common.{◌-◌, ◌<◌, ◌≤◌, vec_len}
use Rattle.vl_pipe.specs.Window.{bodies_of}
use Rattle.vl_pipe.proofs.WindowLemmas.{Filling}
use Rattle.vl_pipe.proofs.window.cut_window.Given as goal

abbrev pub invariant-groups : goal.invariant-groups
invariant-groups g l = record {
  filling :
      Filling l.initial.reader l.reader (g.S.Source.left l.initial.src) (g.S.Source.left l.src)
      (g.S.Source.faults l.initial.src) (g.S.Source.faults l.src) (bodies_of l.groups.items);
  room : vec_len l.groups < l.most;
  most : l.most ≤ 8;
}

abbrev pub decreases-groups : goal.decreases-groups
decreases-groups g l = l.most - vec_len l.groups
