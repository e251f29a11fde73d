-- What the frame table stands for.
use Rattle.std.specs.Prelude.{◌-◌, List, map, reverse, take, drop, length}
use Rattle.held.specs.Value.{held_by}
use Rattle.frames.specs.declared.frame.Manner as code_manner
use Rattle.frames.specs.declared.frame.Manner.TheVariants.{Once, Each, Cells, Keeping, Watching}
use Rattle.frames.specs.declared.frame.Frame as code_frame
use Rattle.frames.specs.declared.frame.TrailRecord as code_record
use Rattle.frames.specs.declared.frame.TrailRecord.TheVariants as trail
use Rattle.frames.specs.declared.stack.Frames as code_frames
use Rattle.frames.specs.declared.met.Loop as code_loop
use Rattle.frames.specs.declared.met.Loop.TheVariants.{For, Table}
use Rattle.frames.specs.declared.met.Met as code_met
use Rattle.frames.specs.declared.met.Met.TheVariants as met
use Rattle.frames.specs.Items.{item_of}
use Rattle.meaning.specs.Hosts.{Host}
use Rattle.meaning.specs.Frames.{Manner, once, each, cells, keeping, watching, Frame, Frames, LoopObject, of_for, of_table, Met, value, loop, TrailRecord, blank, stands}

abbrev pub manner_of : code_manner.Manner → Manner
manner_of Once = once
manner_of (Each v n) = each v n
manner_of (Cells v n k) = cells v n k
manner_of (Keeping n) = keeping n
manner_of Watching = watching

-- the frame of the definition, for a tray
abbrev pub frame_of : Host → code_frame.Frame → Frame
frame_of h f = record { place = f.place; manner = manner_of f.manner; visit = f.visit; item = item_of h f.item }

-- the open frames, the innermost first
abbrev pub open_in : code_frames.Frames → List code_frame.Frame
open_in fs = reverse (take fs.depth fs.table)

abbrev pub frames_of : Host → List code_frame.Frame → Frames
frames_of h fs = map (frame_of h) fs

-- the frames around, the innermost first
abbrev pub around_in : Host → code_frames.Frames → Frames
around_in h fs = frames_of h (open_in fs)

-- a loop object; a `for` has the outermost `around` frames around it
abbrev pub loop_of : Frames → code_loop.Loop → LoopObject
loop_of fs (For n i around) = of_for n i (drop (length fs - around) fs)
loop_of fs (Table n i k) = of_table n i k

abbrev pub met_of : Frames → code_met.Met → Met
met_of fs (met.Value v) = value (held_by (λ t. t.now) v)
met_of fs (met.Loop l) = loop (loop_of fs l)

abbrev pub trail_record_of : code_record.TrailRecord → TrailRecord
trail_record_of trail.Blank = blank
trail_record_of (trail.Stands p v) = stands p v
