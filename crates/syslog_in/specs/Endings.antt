-- What the code says of the end of a run.
use Rattle.syslog_in.specs.DataReading.{Ending, quote, escape, nothing}
use Rattle.syslog_in.specs.declared.data.RunEnd.{RunEnd}
use Rattle.syslog_in.specs.declared.data.RunEnd.TheVariants.{Quote, Escape, Nothing}

abbrev pub ending_of : RunEnd → Ending
ending_of (Quote rest) = quote rest.now
ending_of (Escape byte rest) = escape byte rest.now
ending_of Nothing = nothing
