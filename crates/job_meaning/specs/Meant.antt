-- What the parts of a job mean.
use Rattle.std.specs.Prelude.{◌<◌, length}
use Rattle.job_meaning.specs.declared.job.Job as code
use Rattle.job_meaning.specs.Jobs.{Job}

abbrev pub meant : code.Job → Job
meant job = record { class = job.class.now; method = job.method; program = job.program.now; function = job.function; shape = job.shape.now; steps = job.budgets.now.steps; frames = job.budgets.now.frames; elements = job.budgets.now.elements; depth = job.budgets.now.depth; work = job.budgets.now.work }

-- the method is one of the class, the function one of the program
abbrev pub IsJob : Job → Type 0
IsJob job = (job.method.0 < length job.class.methods) × (job.function.0 < length job.program.functions)
