mod AtEnd
mod ComingKeys
mod KeyOrder
mod LookedUp
mod Pairs
mod SameKeys
mod ToldKeys
