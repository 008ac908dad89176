-- A send reported failed.
use Rattle.transport.specs.declared.Phase.{Phase}
use Rattle.transport.specs.declared.Phase.TheVariants as phase

-- a replay that is ended is live
abbrev pub stopped : Phase → Phase
stopped phase.Live = phase.Live
stopped phase.Closing = phase.Closing
stopped phase.Connecting = phase.Connecting
stopped (phase.Verdict r) = phase.Verdict r
stopped (phase.Replay c) = phase.Live
stopped (phase.Ended c) = phase.Ended c
