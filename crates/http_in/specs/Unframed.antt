-- The fault of a request whose fields are at fault.
use Rattle.http_said.specs.declared.framing.FieldFault.{FieldFault}
use Rattle.http_said.specs.declared.framing.FieldFault.TheVariants as fields
use Rattle.http_in.specs.declared.fault.RequestFault.{RequestFault}
use Rattle.http_in.specs.declared.fault.RequestFault.TheVariants as faults

abbrev pub request_fault : FieldFault → RequestFault
request_fault fields.BodyLarge = faults.BodyLarge
request_fault fields.BadLength = faults.BadLength
request_fault fields.Coding = faults.Coding
