-- What a request asks for, from its path, its method and its arguments, in this order.
use Rattle.std.specs.Prelude.{ℕ, Bool, ◌||◌, List, [], ◌∷◌, Option, None, Some, Result, Ok, Err, bytes_eq, codes}
use Rattle.std.specs.Prelude.{is_some, if◌then◌else◌}
use Rattle.std.specs.List.{find}
use Rattle.std.specs.Map.{lookup}
use Rattle.http_in.specs.Message.{Asked}
use Rattle.http_reply.specs.declared.status.Delivery.{Delivery}
use Rattle.http_reply.specs.declared.status.Methods.{Methods}
use Rattle.http_reply.specs.declared.status.Methods.TheVariants as methods
use Rattle.ingest_row.specs.Asked.{argument, options_of}
use Rattle.ingest_row.specs.Ingest.{Options}
use Rattle.http_route.specs.Refusal.{argument_name}
use Rattle.http_route.specs.declared.path.Route.{Route}
use Rattle.http_route.specs.declared.path.Route.TheVariants as routes
use Rattle.http_route.specs.declared.refusal.Argument.{Argument}
use Rattle.http_route.specs.declared.refusal.Argument.TheVariants as arguments
use Rattle.http_route.specs.declared.refusal.Refusal.{Refusal}
use Rattle.http_route.specs.declared.refusal.Refusal.TheVariants as refusals
use Rattle.http_route.specs.declared.wanted.Wanted.TheVariants as wants
use Rattle.http_route.specs.declared.wanted.Wanted.{Wanted as Want}

-- ---- paths and methods

-- the paths that there are
abbrev pub paths : List (List ℕ × Route)
paths =
    (codes "/insert/jsonline", routes.Insert)
    ∷ (codes "/select/logsql/query", routes.Query)
    ∷ (codes "/status", routes.Status)
    ∷ (codes "/health", routes.Health)
    ∷ []

abbrev pub route_at : List ℕ → Option Route
route_at path = lookup (bytes_eq path) paths

abbrev pub methods_of : Route → Methods
methods_of routes.Insert = methods.Post
methods_of routes.Query = methods.GetAndPost
methods_of routes.Status = methods.Get
methods_of routes.Health = methods.Get

abbrev pub has_method : Methods → List ℕ → Bool
has_method methods.Get method = bytes_eq method (codes "GET")
has_method methods.Post method = bytes_eq method (codes "POST")
has_method methods.GetAndPost method = bytes_eq method (codes "GET") || bytes_eq method (codes "POST")

abbrev pub by_method : Option Route → List ℕ → Result Route Refusal
by_method None method = Err refusals.NoPath
by_method (Some route) method =
    if has_method (methods_of route) method then Ok route else Err (refusals.NoMethod (methods_of route))

-- The path is compared byte by byte, and the method too.
abbrev pub route_of : List ℕ → List ℕ → Result Route Refusal
route_of path method = by_method (route_at path) method

-- ---- arguments

-- the arguments that VictoriaLogs has for a query, and that are not served
abbrev pub refused_arguments : List Argument
refused_arguments = arguments.Limit ∷ arguments.Start ∷ arguments.End ∷ arguments.Offset ∷ []

-- the first of them that is there
abbrev pub refused_of : List (List ℕ × List ℕ) → Option Argument
refused_of args = find (λ name. is_some (argument args (argument_name name))) refused_arguments

abbrev pub unless_refused : Option Argument → List ℕ → Result (List ℕ) Refusal
unless_refused None text = Ok text
unless_refused (Some argument) text = Err (refusals.BadArgument argument)

abbrev pub with_query : Option (List ℕ) → Option Argument → Result (List ℕ) Refusal
with_query None refused = Err (refusals.BadArgument arguments.Query)
with_query (Some text) refused = unless_refused refused text

-- The text of the query. Of a repeated argument the first counts.
abbrev pub query_asked : List (List ℕ × List ℕ) → Result (List ℕ) Refusal
query_asked args = with_query (argument args (codes "query")) (refused_of args)

-- ---- requests

-- what a request asks for
pub data Wanted : Type 0 where
  insert : Options → Wanted
  query : List ℕ → Wanted
  status : Wanted
  health : Wanted

abbrev pub with_options : Option Options → Result Wanted Refusal
with_options None = Err (refusals.BadArgument arguments.ExtraFields)
with_options (Some options) = Ok (insert options)

abbrev pub insert_of : List (List ℕ × List ℕ) → Result Wanted Refusal
insert_of args = with_options (options_of args)

abbrev pub with_text : Result (List ℕ) Refusal → Result Wanted Refusal
with_text (Ok text) = Ok (query text)
with_text (Err refusal) = Err refusal

abbrev pub wanted_on : Route → List (List ℕ × List ℕ) → Result Wanted Refusal
wanted_on routes.Insert args = insert_of args
wanted_on routes.Query args = with_text (query_asked args)
wanted_on routes.Status args = Ok status
wanted_on routes.Health args = Ok health

abbrev pub on_found : Result Route Refusal → List (List ℕ × List ℕ) → Result Wanted Refusal
on_found (Ok route) args = wanted_on route args
on_found (Err refusal) args = Err refusal

abbrev pub wanted_of : Asked → Result Wanted Refusal
wanted_of asked = on_found (route_of asked.path asked.method) asked.args

-- ---- how the crate's own values are seen

abbrev pub wanted_by : Want → Wanted
wanted_by (wants.Insert options) = insert options
wanted_by (wants.Query text) = query text.now
wanted_by wants.Status = status
wanted_by wants.Health = health

-- the reply to HEAD has no content (RFC 9110, section 9.3.2)
abbrev pub delivery_of : Asked → Bool → Delivery
delivery_of asked closes = record { bare = bytes_eq asked.method (codes "HEAD"); closes = closes }
