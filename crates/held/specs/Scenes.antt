-- What a scene is to the definition.
use Rattle.std.specs.Prelude.{◌≡◌, vec_items}
use Rattle.tray.specs.declared.trays.Tray.{Tray}
use Rattle.nodes.specs.Books.{names_in, pool_in}
use Rattle.nodes.specs.Exprs.{Pool}
use Rattle.held.specs.declared.scenes.Scene.{Scene}
use Rattle.meaning.specs.Hosts.{Host}
use Rattle.meaning.specs.Looking.{World}

abbrev pub host_of : Tray → Host
host_of t = record { records = vec_items t.records; letters = t.text.now }

abbrev pub host_in : Scene → Host
host_in s = host_of s.tray.now

abbrev pub pool_of : Scene → Pool
pool_of s = pool_in s.book

-- The world has the names and the tray of the scene; bank and buffer are of no matter here.
pub record Fits (w : World) (s : Scene) : Type 0 where
  pub names : w.names ≡ names_in s.book
  pub host : w.host ≡ host_in s
