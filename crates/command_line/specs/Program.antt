-- The command line of `gfscell` as a command of `clap`: which words it takes, and what they name.
use Rattle.std.specs.Prelude.{true, false, List, [], ◌∷◌, ◌++◌, map, Some, codes}
use Rattle.std.specs.Borrow.{Bor}
use Rattle.clap.specs.Walk.{Rule, Text}
use Rattle.clap.specs.Simple.{App, Shape, new_rule, new_shape, on_top}
use Rattle.clap.specs.declared.builder.action.ArgAction.TheVariants.{Set, SetTrue}

-- the options of the cell's settings
abbrev pub setting_names : List Text
setting_names = codes "chunk" ∷ codes "block" ∷ codes "goal" ∷ codes "lease-ms" ∷ codes "skew-ms" ∷ codes "attempt-ms" ∷ codes "attempts"
    ∷ codes "cache-entries" ∷ codes "cache-ms" ∷ codes "push-entries" ∷ codes "keep-ms" ∷ codes "slots" ∷ codes "log-bytes" ∷ codes "journal" ∷ []

abbrev pub option_names : List Text
option_names = codes "servers" ∷ codes "clients" ∷ setting_names

-- an option by a long name, which takes one value
abbrev pub option_named : Text → Rule
option_named name = record (new_rule name) { long = Some name; value_names = 1; action = Some Set }

-- an option for each name more
abbrev pub with_options : App → List Text → App
with_options a names = on_top (λ s. record s { rules = s.rules ++ map option_named names }) a

-- a flag by a long name
abbrev pub flag_named : Text → Rule
flag_named name = record (new_rule name) { long = Some name; action = Some SetTrue }

-- the names of a list of options, each with what the help says of it
abbrev pub names : List (Bor Text × Bor Text) → List Text
names = map (λ option. option.0.now)

-- the script's file, which has to be given
abbrev pub file : Rule
file = record (new_rule (codes "FILE")) { required = true }

-- a subcommand of this name, which runs a script
abbrev pub runner : Text → Shape
runner name = record (new_shape name) { rules = file ∷ map option_named option_names }

-- the option of the simulator alone
abbrev pub names_heap : Text
names_heap = codes "names-heap"

abbrev pub simulator : Shape
simulator = record (runner (codes "sim")) { rules = (runner (codes "sim")).rules ++ (option_named names_heap ∷ []) }

-- the options of both cells with threads
abbrev pub keep : Text
keep = codes "keep"

abbrev pub regions : Text
regions = codes "regions"

-- the option and the flag of the one that runs a script
abbrev pub history : Text
history = codes "history"

abbrev pub progress : Text
progress = codes "progress"

abbrev pub player : Shape
player = record (runner (codes "live")) {
  rules = ((((runner (codes "live")).rules ++ (option_named keep ∷ [])) ++ (option_named regions ∷ [])) ++ (option_named history ∷ [])) ++ (flag_named progress ∷ []);
}

-- the subcommand that serves a cell with threads
abbrev pub server : Shape
server = record (new_shape (codes "serve")) { rules = (map option_named option_names ++ (option_named keep ∷ [])) ++ (option_named regions ∷ []) }

abbrev pub gfscell : Shape
gfscell = record (new_shape (codes "gfscell")) {
  is_leaf = false;
  has_version = true;
  disable_help_subcommand = true;
  subcommand_required = true;
}

abbrev pub program : App
program = record { top = gfscell; subs = simulator ∷ player ∷ server ∷ [] }
