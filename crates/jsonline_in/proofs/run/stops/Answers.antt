use Rattle.jsonline_in.proofs.Runs.{stops_mask}
use Rattle.jsonline_in.proofs.run.stops.Goals as goal

pub returns : goal.returns
returns c = stops_mask c.args.bytes c.fits-bytes.0 c.fits-bytes.1
