-- Replies to refused requests, and to bytes that are not requests.
use Rattle.std.specs.Prelude.{ℕ, List, ◌++◌, Option, None, Some, codes, true, false}
use Rattle.http_in.specs.declared.fault.RequestFault.{RequestFault}
use Rattle.http_in.specs.declared.fault.RequestFault.TheVariants as faults
use Rattle.http_reply.specs.Reply.{reply_bytes}
use Rattle.http_reply.specs.declared.status.Delivery.{Delivery}
use Rattle.http_reply.specs.declared.status.Status.{Status}
use Rattle.http_reply.specs.declared.status.Status.TheVariants as statuses
use Rattle.http_route.specs.declared.refusal.Argument.{Argument}
use Rattle.http_route.specs.declared.refusal.Argument.TheVariants as arguments
use Rattle.http_route.specs.declared.refusal.Refusal.{Refusal}
use Rattle.http_route.specs.declared.refusal.Refusal.TheVariants as refusals

-- ---- requests

abbrev pub argument_name : Argument → List ℕ
argument_name arguments.Query = codes "query"
argument_name arguments.Limit = codes "limit"
argument_name arguments.Start = codes "start"
argument_name arguments.End = codes "end"
argument_name arguments.Offset = codes "offset"
argument_name arguments.ExtraFields = codes "extra_fields"

abbrev pub refusal_status : Refusal → Status
refusal_status refusals.NoPath = statuses.NotFound
refusal_status (refusals.NoMethod methods) = statuses.MethodNotAllowed methods
refusal_status (refusals.BadArgument argument) = statuses.BadRequest

abbrev pub refusal_text : Refusal → List ℕ
refusal_text refusals.NoPath = codes "no such path\n"
refusal_text (refusals.NoMethod methods) = codes "no such method\n"
refusal_text (refusals.BadArgument argument) = codes "BadArgument " ++ (argument_name argument ++ codes "\n")

-- the reply to a refused request
abbrev pub refusal_bytes : Refusal → Delivery → List ℕ
refusal_bytes refusal delivery = reply_bytes (refusal_status refusal) (refusal_text refusal) delivery

-- ---- reading faults

-- The connection ends after the reply to a fault, and its request, which is not whole, may have any method.
abbrev pub last_delivery : Delivery
last_delivery = record { bare = false; closes = true }

-- The reply to a reading fault. There is none where the input ended or failed, or memory ran out.
abbrev pub fault_page : RequestFault → Option (List ℕ)
fault_page faults.SourceFault = None
fault_page (faults.BadHead at) = Some (reply_bytes statuses.BadRequest (codes "BadHead\n") last_delivery)
fault_page (faults.Cut at) = None
fault_page faults.HeadLarge = Some (reply_bytes statuses.BadRequest (codes "HeadLarge\n") last_delivery)
fault_page faults.BodyLarge = Some (reply_bytes statuses.ContentTooLarge (codes "BodyLarge\n") last_delivery)
fault_page faults.BadLength = Some (reply_bytes statuses.BadRequest (codes "BadLength\n") last_delivery)
fault_page (faults.BadChunk at) = Some (reply_bytes statuses.BadRequest (codes "BadChunk\n") last_delivery)
fault_page faults.Coding = Some (reply_bytes statuses.UnsupportedMediaType (codes "Coding\n") last_delivery)
fault_page faults.Memory = None
