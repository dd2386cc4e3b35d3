-- The command line of the program, as clap defines one.
use Rattle.std.specs.Prelude.{List, [], ◌∷◌, codes, Some, true}
use Rattle.clap.specs.Simple.{App, Shape, new_rule, new_shape, with_subcommand}
use Rattle.clap.specs.Walk.{Rule, Text}

-- `--NAME VALUE`, which may be left out
abbrev pub option : Text → Rule
option name = record (new_rule name) { long = Some name }

-- `--NAME VALUE`
abbrev pub needed_option : Text → Rule
needed_option name = record (option name) { required = true }

-- a word at its place
abbrev pub word : Text → Rule
word name = record (new_rule name) { required = true }

-- a command with these arguments
abbrev pub command : Text → List Rule → Shape
command name arguments = record (new_shape name) { rules = arguments }

-- `pipe [--stream-fields LIST] QUERY`
abbrev pub pipe : Shape
pipe = command (codes "pipe") (option (codes "stream-fields") ∷ word (codes "query") ∷ [])

-- `load --dir DIRECTORY [--stream-fields LIST]`
abbrev pub load : Shape
load = command (codes "load") (needed_option (codes "dir") ∷ option (codes "stream-fields") ∷ [])

-- `query --dir DIRECTORY QUERY`
abbrev pub query : Shape
query = command (codes "query") (needed_option (codes "dir") ∷ word (codes "query") ∷ [])

-- `trial SEED ROWS`
abbrev pub trial : Shape
trial = command (codes "trial") (word (codes "seed") ∷ word (codes "rows") ∷ [])

-- `serve --dir DIRECTORY --http ADDRESS [--syslog ADDRESS] [--workers COUNT]`
abbrev pub serve : Shape
serve = command (codes "serve")
    (needed_option (codes "dir") ∷ needed_option (codes "http") ∷ option (codes "syslog")
    ∷ option (codes "workers") ∷ [])

-- The program without its commands. One of them is wanted. The words do not begin with the program's name, and there
-- is no help flag and no version flag.
abbrev pub bare : App
bare = record {
  top = record (new_shape (codes "duvonka")) {
    no_binary_name = true;
    disable_help_flag = true;
    disable_help_subcommand = true;
    disable_version_flag = true;
    subcommand_required = true;
  };
  subs = [];
}

-- the program
unfoldable pub program : App
program =
    with_subcommand (with_subcommand (with_subcommand (with_subcommand (with_subcommand bare pipe) load) query) trial)
    serve
