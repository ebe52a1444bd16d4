-- Connections over the network. What goes over one is not known.
use Rattle.std.specs.declared.net.tcp.TcpStream.{TcpStream}
use Rattle.pfl_base.specs.declared.std_device.Std.{Std}

-- a side of a connection, as a session reads from it or writes to it
abbrev pub Connection : Type 0
Connection = Std TcpStream
