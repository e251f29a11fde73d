-- How lists of elements end.
use Rattle.renderer.specs.declared.flow.Flow as code
use Rattle.renderer.specs.declared.flow.Flow.TheVariants.{Onward, Broken, Continued}
use Rattle.meaning.specs.Leaves.{Flow, onward, broken, continued}

-- the flow of the definition
abbrev pub flow_of : code.Flow → Flow
flow_of Onward = onward
flow_of Broken = broken
flow_of Continued = continued
