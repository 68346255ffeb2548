mod Asked
mod Grants
mod Digests
mod Pends
mod Places
mod Texts
mod Verdicts
