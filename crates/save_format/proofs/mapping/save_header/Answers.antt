use Rattle.std.proofs.Common.{◌≡◌, length}
use Rattle.save_format.specs.SaveText.{SaveText, fields_at, save_at, saved_stage_at}
use Rattle.save_format.specs.Seen.{IsSaveHeaderOf}
use Rattle.save_format.specs.StateText.Mappable.{IsHeaderOf}
use Rattle.save_format.specs.StateText.StateText.{StateText}
use Rattle.save_format.specs.declared.mapping.SaveHeader.{SaveHeader}
use Rattle.save_format.proofs.StateTextLemmas.Mapped.{several_length, told_in}
use Rattle.save_format.proofs.mapping.save_header.Goals as goal

pub returns : goal.returns
unfolding save_at fields_at
returns c =
    let count : c.in_ok-stages.stages ≡ length c.in_ok-pass_several.ensures.0 =
    several_length saved_stage_at (λ stage. 0) 0 c.in_ok-stages.stages _ _ c.in_ok-pass_several.ensures.0 c.in_ok-pass_several.ensures.1 in
    rw (c.in_ok-form.ensures, c.in_ok-_recipe.ensures, c.in_ok-pass_counted.ensures.1, c.in_ok-stages.ensures, c.in_ok-pass_several.ensures.1)
    (told_in IsHeaderOf IsSaveHeaderOf (λ state. record { recipe = c.in_ok-_recipe._recipe; inputs = c.in_ok-pass_counted.ensures.0; stages = c.in_ok-pass_several.ensures.0; state = state })
    (λ header. record { stages = c.in_ok-stages.stages; state = header }) (λ header state is. record { stages = count; state = is })
    c.in_ok-state.state _ c.in_ok-state.ensures)
