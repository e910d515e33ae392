-- `plain_frames::damage::error` meets its contract.
use Rattle.plain_frames.proofs.Errors.{drawn-nonzero}
use Rattle.plain_frames.proofs.damage.error.Goals as goal

pub returns-then-kind-eq0 : goal.returns-then-kind-eq0
returns-then-kind-eq0 c = (λ z. drawn-nonzero _ c.draw_from.ensures.1, λ other. absurd (other c.if-kind-eq0.true))
