-- The grammar of the commands, as it is told to clap.
use Rattle.std.specs.Prelude.{◌≡◌, ◌++◌, true, false, List, [], ◌∷◌, map, Some, codes}
use Rattle.clap.specs.Words.{App, Rule, Shape, Text, new_rule, shape_of}
use Rattle.clap.specs.declared.builder.command.Command.TheViews.{out-Command}
use Rattle.clap.specs.Simple.{new_shape}
use Rattle.clap.specs.declared.builder.command.Command.{Command}
use Rattle.clap.specs.declared.builder.action.ArgAction.TheVariants.{SetTrue}

abbrev pub positional_rule : Text → Rule
positional_rule id = record (new_rule id) { required = true }

abbrev pub option_rule : Text → Rule
option_rule id = record (new_rule id) { long = Some id }

abbrev pub flag_rule : Text → Rule
flag_rule id = record (new_rule id) { long = Some id; action = Some SetTrue }

-- what stands after a command's name: the names of its positional words, of the options with a
-- value, and of those without
pub record Form : Type 0 where
  pub positionals : List Text
  pub options : List Text
  pub flags : List Text

abbrev pub check_form : Form
check_form = record {
  positionals = codes "module" ∷ [];
  options = codes "turns" ∷ [];
  flags = codes "json" ∷ [];
}

abbrev pub replay_form : Form
replay_form =
    record { positionals = codes "file" ∷ []; options = codes "of" ∷ []; flags = [] }

abbrev pub normal_form : Form
normal_form = record {
  positionals = codes "module" ∷ codes "name" ∷ [];
  options = codes "turns" ∷ [];
  flags = [];
}

abbrev pub prompt_form : Form
prompt_form =
    record { positionals = codes "module" ∷ []; options = codes "turns" ∷ []; flags = [] }

abbrev pub make_form : Form
make_form = record { positionals = codes "count" ∷ []; options = []; flags = [] }

abbrev pub rules_of : Form → List Rule
rules_of f =
    map positional_rule f.positionals ++ (map option_rule f.options ++ map flag_rule f.flags)

abbrev pub shape : Text → Form → Shape
shape name f = record (new_shape name) { rules = rules_of f }

abbrev pub top_shape : Shape
top_shape = record (new_shape (codes "ctt")) {
  is_leaf = false;
  no_binary_name = true;
  disable_help_flag = true;
  disable_help_subcommand = true;
  disable_version_flag = true;
  subcommand_required = true;
}

abbrev pub ctt_app : App
ctt_app = record {
  top = top_shape;
  subs = shape (codes "check") check_form
      ∷ shape (codes "replay") replay_form
      ∷ shape (codes "normal") normal_form
      ∷ shape (codes "prompt") prompt_form
      ∷ shape (codes "make") make_form ∷ [];
}

-- the command takes words of this form after its name
abbrev pub IsOfForm : Text → Form → Command → Type 0
IsOfForm name f c = (shape_of c ≡ shape name f) × ((out-Command c).has_globals ≡ false)
