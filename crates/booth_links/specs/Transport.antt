-- The name of each transport in the environment.
use Rattle.std.specs.Prelude.{ℕ, List, [], codes}
use Rattle.booth_links.specs.declared.transport.Transport.{Transport}
use Rattle.booth_links.specs.declared.transport.Transport.TheVariants.{Udp, Tcp, Either}

-- the name of a transport: none for a link after a silence
abbrev pub name_of : Transport → List ℕ
name_of Udp = codes "udp"
name_of Tcp = codes "tcp"
name_of Either = []
