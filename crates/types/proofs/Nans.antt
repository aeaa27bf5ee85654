-- Where a port goes astray with NaNs (Q-10): one is a NaN whether it is quiet or not, and whether it is kept, converted or made of the text; an infinity is none.
use mathlib.Core.Path.{◌≡◌, refl}
use Rattle.base.specs.Base.{ok, stop}
use Rattle.text.specs.Text.{ascii, same}
use Rattle.rounding.specs.Rounding.{convert_magnitude, convert}
use Rattle.scalar.specs.Conversion.{float_of_double, double_of_float, parse_special_float}
use Rattle.frame.specs.Kind
use Rattle.frame.specs.Tree.{Value, kind_of, number, octets}
use Rattle.types.specs.Types.{special, resolve_float, resolve_double}

-- a signalling one is kept by neither
pub signalling-kept : (resolve_float (Value.Scalar Kind.Float 0x7f80_0001) ≡ stop 28) × (resolve_double (Value.Scalar Kind.Double 0xfff0_0000_0000_0001) ≡ stop 28)
unfolding resolve_float resolve_double kind_of number
signalling-kept = (refl, refl)

pub signalling-converted : (resolve_float (Value.Scalar Kind.Double 0x7ff0_0000_0000_0001) ≡ stop 28) × (resolve_double (Value.Scalar Kind.Float 0xff80_0001) ≡ stop 28)
unfolding resolve_float resolve_double kind_of number float_of_double double_of_float convert
signalling-converted = (refl, refl)

pub text-refused : (resolve_float (Value.Octets Kind.String (ascii "NaN")) ≡ stop 28) × (resolve_double (Value.Octets Kind.String (ascii "NaN")) ≡ stop 28)
unfolding resolve_float resolve_double special parse_special_float ascii same kind_of octets double_of_float convert
text-refused = (refl, refl)

pub infinity-passes : (resolve_float (Value.Scalar Kind.Double 0x7ff0_0000_0000_0000) ≡ ok (Value.Scalar Kind.Float 0x7f80_0000))
    × (resolve_double (Value.Scalar Kind.Double 0xfff0_0000_0000_0000) ≡ ok (Value.Scalar Kind.Double 0xfff0_0000_0000_0000))
unfolding resolve_float resolve_double kind_of number float_of_double convert convert_magnitude
infinity-passes = (refl, refl)
