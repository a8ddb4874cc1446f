mod Authority
mod Host
mod Uri
