-- The result of a step as one flat enum, which the code uses. To read the promises, this file is not needed.
use Rattle.rv64_machine.specs.declared.answer.FlatEnd.{FlatEnd}
use Rattle.rv64_machine.specs.declared.answer.FlatEnd.TheVariants as flat
use Rattle.rv64_machine.specs.declared.answer.Cause.TheVariants as cause
use Rattle.rv64_machine.specs.declared.answer.StepEnd.{StepEnd}
use Rattle.rv64_machine.specs.declared.answer.StepEnd.TheVariants as end

abbrev pub step_end : FlatEnd → StepEnd
step_end flat.Done = end.Done
step_end flat.Call = end.Call
step_end flat.OutOfMemory = end.OutOfMemory
step_end (flat.Illegal word) = end.Trap (cause.Illegal word)
step_end (flat.FetchUnmapped at) = end.Trap (cause.FetchUnmapped at)
step_end (flat.FetchMisaligned at) = end.Trap (cause.FetchMisaligned at)
step_end (flat.LoadUnmapped at) = end.Trap (cause.LoadUnmapped at)
step_end (flat.StoreUnmapped at) = end.Trap (cause.StoreUnmapped at)
step_end flat.Break = end.Trap cause.Break
