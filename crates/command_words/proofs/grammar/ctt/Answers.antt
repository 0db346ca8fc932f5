use Rattle.std.proofs.Common.{◌≡◌, ◌∙◌, ap, ap₂, true, []}
use Rattle.clap.specs.Words.{App, app_of, with_subcommand}
use Rattle.clap.specs.Simple.{app_of_fields}
use Rattle.clap.specs.declared.builder.command.Command.{Command}
use Rattle.clap.specs.declared.builder.command.Command.TheOpen.{Command-F}
use Rattle.command_words.specs.Grammar.{top_shape}
use Rattle.command_words.proofs.grammar.ctt.Goals as goal

pub returns : goal.returns
returns c =
    let fields = c.subcommand_required-command.ensures
    ∙ ap (λ (f : Command-F Command). record f { subcommand_required = true }) (c.disable_version_flag.ensures
    ∙ ap (λ (f : Command-F Command). record f { disable_version_flag = true }) (c.disable_help_subcommand.ensures
    ∙ ap (λ (f : Command-F Command). record f { disable_help_subcommand = true }) (c.disable_help_flag.ensures
    ∙ ap (λ (f : Command-F Command). record f { disable_help_flag = true }) c.no_binary_name.ensures))) in
    let top : app_of c.subcommand_required-command.result ≡ record { top = record top_shape { is_leaf = true }; subs = [] } =
    ap app_of_fields fields ∙ ap (λ (a : App). record a {
      top = record a.top {
        no_binary_name = true;
        disable_help_flag = true;
        disable_help_subcommand = true;
        disable_version_flag = true;
        subcommand_required = true;
      };
    }) c.new.ensures.app in
    let with_check = c.in_ok-command.ensures.shape c.in_ok-check.ensures.1 ∙ ap₂ with_subcommand top c.in_ok-check.ensures.0 in
    let with_replay = c.in_ok-command-2.ensures.shape c.in_ok-replay.ensures.1 ∙ ap₂ with_subcommand with_check c.in_ok-replay.ensures.0 in
    let with_normal = c.in_ok-command-3.ensures.shape c.in_ok-normal.ensures.1 ∙ ap₂ with_subcommand with_replay c.in_ok-normal.ensures.0 in
    let with_prompt = c.in_ok-command-4.ensures.shape c.in_ok-prompt.ensures.1 ∙ ap₂ with_subcommand with_normal c.in_ok-prompt.ensures.0 in
    c.in_ok-subcommand.ensures.shape c.in_ok-make.ensures.1 ∙ ap₂ with_subcommand with_prompt c.in_ok-make.ensures.0
