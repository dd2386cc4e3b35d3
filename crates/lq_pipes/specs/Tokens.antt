-- Objects as the tokens that are written for them.
use Rattle.std.specs.Prelude.{List, [], ◌∷◌, ◌++◌, flat_map}
use Rattle.json.specs.Token.{Token, begin_object, end_object, key, string}
use Rattle.log_model.specs.Field.{Field}

abbrev pub member_tokens : Field → List Token
member_tokens field = key field.0 ∷ string field.1 ∷ []

abbrev pub members_tokens : List Field → List Token
members_tokens fields = flat_map member_tokens fields

abbrev pub object_tokens : List Field → List Token
object_tokens fields = begin_object ∷ (members_tokens fields ++ end_object ∷ [])
