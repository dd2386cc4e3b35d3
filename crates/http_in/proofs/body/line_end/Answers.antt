use Rattle.std.proofs.Common.{◌<◌, arith, length}
use Rattle.http_in.proofs.LackLemmas.{adds_none}
use Rattle.http_in.proofs.body.line_end.Goals as goal

pub reads-init : goal.reads-init
reads-init g c = record {
  adds = adds_none g.S.Source.left (length c.args.window.now < 2) c.args.src.now c.args.window.now;
  stays = omega arith;
}
