-- What a refusal hands back.
use Rattle.seg_list.specs.Buffer.{Buffer}
use Rattle.mbuf_chain.specs.declared.refusal.AddRefused.{AddRefused}
use Rattle.mbuf_chain.specs.declared.refusal.AddRefused.TheVariants.{TooManySegs, OutOfMemory}

abbrev pub seg_of : AddRefused → Buffer
seg_of (TooManySegs s) = s
seg_of (OutOfMemory s) = s
