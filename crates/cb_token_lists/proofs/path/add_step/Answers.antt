use Rattle.std.proofs.Common.{◌∙◌, List, Option, ap}
use Rattle.cb_beta.specs.Tokens.{with_taken}
use Rattle.cb_token_lists.proofs.Paths.{with_last}
use Rattle.cb_token_lists.specs.Internal.{with_path}
use Rattle.cb_token_lists.specs.Partials.{SourceValue}
use Rattle.cb_token_lists.specs.declared.path.Step.{Step}
use Rattle.cb_token_lists.proofs.path.add_step.Goals as goal

pub returns : goal.returns
returns c m =
    ap (λ (it : List (Option Step)). with_path it m) c.in_ok-push.ensures.ok
    ∙ (with_last c.args.path.now.items _ m
    ∙ ap (λ (s : SourceValue). with_path c.args.path.now.items (with_taken s.address c.args.token.now.taken m)) c.source.view_is)
