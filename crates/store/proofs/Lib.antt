mod Places
mod Pages
