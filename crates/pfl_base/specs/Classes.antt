-- The classes of states, with their numbers and default timeouts (pf.conf(5); the numbers and seconds are this project's profile).
use Rattle.std.specs.Prelude.{ℕ, Option, List, [], ◌∷◌, slice_get}
use Rattle.pfl_base.specs.declared.class.Class.{Class}
use Rattle.pfl_base.specs.declared.class.Class.TheVariants.{TcpFirst, TcpOpening, TcpEstablished, TcpClosing, TcpFinWait, TcpClosed, UdpFirst}
use Rattle.pfl_base.specs.declared.class.Class.TheVariants.{UdpSingle, UdpMultiple, IcmpFirst, IcmpError, OtherFirst, OtherSingle, OtherMultiple}

-- the classes in the order of their numbers
abbrev pub classes : List Class
classes = TcpFirst ∷ TcpOpening ∷ TcpEstablished ∷ TcpClosing ∷ TcpFinWait ∷ TcpClosed ∷ UdpFirst ∷ UdpSingle ∷ UdpMultiple ∷ IcmpFirst
    ∷ IcmpError ∷ OtherFirst ∷ OtherSingle ∷ OtherMultiple ∷ []

-- the number of a class in a frame (this project's profile)
abbrev pub class_number : Class → ℕ
class_number TcpFirst = 0
class_number TcpOpening = 1
class_number TcpEstablished = 2
class_number TcpClosing = 3
class_number TcpFinWait = 4
class_number TcpClosed = 5
class_number UdpFirst = 6
class_number UdpSingle = 7
class_number UdpMultiple = 8
class_number IcmpFirst = 9
class_number IcmpError = 10
class_number OtherFirst = 11
class_number OtherSingle = 12
class_number OtherMultiple = 13

-- the class with the number, if there is one
abbrev pub class_of : ℕ → Option Class
class_of n = slice_get classes n

-- seconds after which a state expires, where no rule says otherwise (this project's profile)
abbrev pub default_timeout : Class → ℕ
default_timeout TcpFirst = 120
default_timeout TcpOpening = 30
default_timeout TcpEstablished = 86400
default_timeout TcpClosing = 900
default_timeout TcpFinWait = 45
default_timeout TcpClosed = 90
default_timeout UdpFirst = 60
default_timeout UdpSingle = 30
default_timeout UdpMultiple = 60
default_timeout IcmpFirst = 20
default_timeout IcmpError = 10
default_timeout OtherFirst = 60
default_timeout OtherSingle = 30
default_timeout OtherMultiple = 60
