use Rattle.std.proofs.Common.{refl, sym}
use Rattle.fl_codec.proofs.for_.sign_bit.Goals as goal

pub returns-in-U8 : goal.returns-in-U8
returns-in-U8 c = record { typed = sym c.in-U8.is; value = rw c.in-U8.is refl }

pub returns-in-U16 : goal.returns-in-U16
returns-in-U16 c = record { typed = sym c.in-U16.is; value = rw c.in-U16.is refl }

pub returns-in-U32 : goal.returns-in-U32
returns-in-U32 c = record { typed = sym c.in-U32.is; value = rw c.in-U32.is refl }

pub returns-in-U64 : goal.returns-in-U64
returns-in-U64 c = record { typed = sym c.in-U64.is; value = rw c.in-U64.is refl }

pub returns-in-I8 : goal.returns-in-I8
returns-in-I8 c = record { typed = sym c.in-I8.is; value = rw c.in-I8.is refl }

pub returns-in-I16 : goal.returns-in-I16
returns-in-I16 c = record { typed = sym c.in-I16.is; value = rw c.in-I16.is refl }

pub returns-in-I32 : goal.returns-in-I32
returns-in-I32 c = record { typed = sym c.in-I32.is; value = rw c.in-I32.is refl }

pub returns-in-I64 : goal.returns-in-I64
returns-in-I64 c = record { typed = sym c.in-I64.is; value = rw c.in-I64.is refl }
